-- Lists that go together place by place, taken apart.
use Rattle.std.proofs.Common.{◌≡◌, ℕ, zero, suc, List, [], ◌∷◌, ◌++◌, length, drop, take, refl, ap, arith}
use Rattle.std.specs.List.{AllZip}

module _ {A B : Type 0} (R : A → B → Type 0) where
  zip_parts : (xs ys : List A) (us vs : List B) → length xs ≡ length us → AllZip R (xs ++ ys) (us ++ vs) → AllZip R xs us × AllZip R ys vs
  zip_parts [] ys [] vs same all = (tt, all)
  zip_parts [] ys (u ∷ us) vs same all = absurd (omega (arith, same))
  zip_parts (x ∷ xs) ys [] vs same all = absurd (omega (arith, same))
  zip_parts (x ∷ xs) ys (u ∷ us) vs same all =
      let fewer : length xs ≡ length us = omega (arith, same) in
      let rest = zip_parts xs ys us vs fewer all.1 in
      ((all.0, rest.0), rest.1)

  -- those in the middle
  pub zip_middle : (before xs following : List A) (first us last : List B) → length before ≡ length first → length xs ≡ length us
      → AllZip R (before ++ (xs ++ following)) (first ++ (us ++ last)) → AllZip R xs us
  zip_middle before xs following first us last fronts same all =
      (zip_parts xs following us last same (zip_parts before (xs ++ following) first (us ++ last) fronts all).1).0

  -- those after
  pub zip_after : (before xs following : List A) (first us last : List B) → length before ≡ length first → length xs ≡ length us
      → AllZip R (before ++ (xs ++ following)) (first ++ (us ++ last)) → AllZip R following last
  zip_after before xs following first us last fronts same all =
      (zip_parts xs following us last same (zip_parts before (xs ++ following) first (us ++ last) fronts all).1).1

  pub zip_rest : (n : ℕ) (xs : List A) (us : List B) → AllZip R xs us → AllZip R (drop n xs) (drop n us)
  zip_rest zero xs us all = all
  zip_rest (suc n) [] [] all = tt
  zip_rest (suc n) [] (u ∷ us) all = absurd all
  zip_rest (suc n) (x ∷ xs) [] all = absurd all
  zip_rest (suc n) (x ∷ xs) (u ∷ us) all = zip_rest n xs us all.1

  -- the first few of each are as many
  pub zip_fronts : (n : ℕ) (xs : List A) (us : List B) → AllZip R xs us → length (take n xs) ≡ length (take n us)
  zip_fronts zero xs us all = refl
  zip_fronts (suc n) [] [] all = refl
  zip_fronts (suc n) [] (u ∷ us) all = absurd all
  zip_fronts (suc n) (x ∷ xs) [] all = absurd all
  zip_fronts (suc n) (x ∷ xs) (u ∷ us) all = ap suc (zip_fronts n xs us all.1)
