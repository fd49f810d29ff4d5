-- The dynamic read from a decoration is the one that it spells.
use Rattle.std.proofs.Common.{◌≡◌, ℕ, cond, Option, Some, None, List, [], ◌∷◌, ◌++◌, codes, bytes_eq, length, refl, sym, ap, ◌∙◌, inl, inr, arith, length-append}
use Rattle.std.specs.Prelude.{IfSome}
use Rattle.std.proofs.lemmas.Bool.{cond_both}
use Rattle.std.proofs.lemmas.List.Sums.{AllPass-from_list_all}
use Rattle.std.proofs.lemmas.Slice.Eq.{bytes_eq-Decides}
use Rattle.abc_text.specs.Cut.{HasNoByte}
use Rattle.abc_scan.specs.declared.dynamic.Dynamic.{Dynamic}
use Rattle.abc_scan.specs.declared.dynamic.Dynamic.TheVariants.{Ppp, Pp, P, Mp, Mf, F, Ff, Fff}
use Rattle.abc_scan.specs.Delimited.{IsDelimited}
use Rattle.abc_scan.specs.Dynamic.{name_of, IsDynamic, dynamic_of}
use Rattle.abc_scan.proofs.Closings.{is_other}
use Rattle.abc_scan.proofs.Readings.{none_found}

-- one word of those that are tried
tried : (text word : List ℕ) (dynamic : Dynamic) (other : Option Dynamic) → IsDynamic word dynamic → IfSome other (IsDynamic text)
    → IfSome (cond (bytes_eq text word) (Some dynamic) other) (IsDynamic text)
tried text word dynamic other spelled more =
    cond_both (bytes_eq text word) (Some dynamic) other (λ o. IfSome o (IsDynamic text)) (λ yes. (bytes_eq-Decides text word).0 yes ∙ spelled) (λ _. more)

pub dynamic-sound : (text : List ℕ) → IfSome (dynamic_of text) (IsDynamic text)
unfolding dynamic_of
dynamic-sound text =
    tried text (codes "!ppp!") Ppp _ refl
    (tried text (codes "!pp!") Pp _ refl
    (tried text (codes "!p!") P _ refl
    (tried text (codes "!mp!") Mp _ refl
    (tried text (codes "!mf!") Mf _ refl
    (tried text (codes "!f!") F _ refl
    (tried text (codes "!ff!") Ff _ refl
    (tried text (codes "!fff!") Fff None refl tt)))))))

own_read : (dynamic : Dynamic) → dynamic_of (33 ∷ (name_of dynamic ++ 33 ∷ [])) ≡ Some dynamic
unfolding dynamic_of
own_read Ppp = refl
own_read _ = refl

pub dynamic-read : (text : List ℕ) (dynamic : Dynamic) → IsDynamic text dynamic → dynamic_of text ≡ Some dynamic
dynamic-read text dynamic is = ap dynamic_of is ∙ own_read dynamic

-- a text that spells none is read as none
pub dynamic-none : (text : List ℕ) → ((dynamic : Dynamic) → IsDynamic text dynamic → ⊥) → dynamic_of text ≡ None
dynamic-none text none = none_found (IsDynamic text) (dynamic_of text) none (dynamic-sound text)

-- a dynamic is between delimiters
name-lacks : (dynamic : Dynamic) → HasNoByte 33 (name_of dynamic)
name-lacks Ppp = AllPass-from_list_all (is_other 33) (name_of Ppp) refl
name-lacks dynamic = AllPass-from_list_all (is_other 33) (name_of dynamic) refl

pub dynamic-delimited : (text : List ℕ) (dynamic : Dynamic) → IsDynamic text dynamic → IsDelimited text
dynamic-delimited text dynamic is = record {
  opening = 33;
  inside = name_of dynamic;
  closing = 33;
  spelling = is;
  delimiters = inr (inl (refl, refl));
  first_closing = name-lacks dynamic;
}

-- one byte is none, and an extra space neither
pub byte-no_dynamic : (text : List ℕ) → length text ≡ 1 → (dynamic : Dynamic) → IsDynamic text dynamic → ⊥
byte-no_dynamic text one dynamic is =
    omega (arith, one, ap length is, length-append (name_of dynamic) (33 ∷ []))

pub space-no_dynamic : (text written : List ℕ) → text ≡ 121 ∷ written → (dynamic : Dynamic) → IsDynamic text dynamic → ⊥
space-no_dynamic text written space dynamic is = let first : 121 ∷ written ≡ 33 ∷ (name_of dynamic ++ 33 ∷ []) = sym space ∙ is in cc
