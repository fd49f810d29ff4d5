-- Parts of lists.
use Rattle.std.proofs.Common.{◌≡◌, ℕ, zero, suc, ◌+◌, ◌-◌, ◌≤◌, List, [], ◌∷◌, ◌++◌, map, All, length, take, drop, sym, ◌∙◌}
use Rattle.std.proofs.Common.{ap, arith, append_assoc, drop-drop}
use Rattle.std.specs.List.{AllZip}
use Rattle.std.proofs.lemmas.List.{take-append-le, drop-append-le, drop-take, take-take}

pub take_past : {X : Type 0} (n : ℕ) (a b : List X) → length a ≤ n → take n (a ++ b) ≡ a ++ take (n - length a) b
take_past n [] b h = (let e : n ≡ n - 0 = omega arith in ap (λ m. take m b) e)
take_past zero (x ∷ a) b h = absurd (omega arith)
take_past (suc n) (x ∷ a) b h = (let e : n - length a ≡ suc n - suc (length a) = omega arith in ap (λ l. x ∷ l) (take_past n a b (omega arith)) ∙ ap (λ m. x ∷ (a ++ take m b)) e)

pub drop_past : {X : Type 0} (n : ℕ) (a b : List X) → length a ≤ n → drop n (a ++ b) ≡ drop (n - length a) b
drop_past n [] b h = (let e : n ≡ n - 0 = omega arith in ap (λ m. drop m b) e)
drop_past zero (x ∷ a) b h = absurd (omega arith)
drop_past (suc n) (x ∷ a) b h = (let e : n - length a ≡ suc n - suc (length a) = omega arith in drop_past n a b (omega arith) ∙ ap (λ m. drop m b) e)

-- A list edited within its middle part.
pub edited_parts : {X : Type 0} (a own b new : List X) (at removed : ℕ) → length a ≤ at → at + removed ≤ length a + length own
    → take at (a ++ (own ++ b)) ++ (new ++ drop (at + removed) (a ++ (own ++ b)))
    ≡ a ++ ((take (at - length a) own ++ (new ++ drop (at + removed - length a) own)) ++ b)
edited_parts a own b new at removed h k =
    let front : take at (a ++ (own ++ b)) ≡ a ++ take (at - length a) own = take_past at a (own ++ b) h ∙ ap (λ l. a ++ l) (take-append-le (at - length a) own b (omega arith)) in
    let tail : drop (at + removed) (a ++ (own ++ b)) ≡ drop (at + removed - length a) own
    ++ b = drop_past (at + removed) a (own ++ b) (omega arith) ∙ drop-append-le (at + removed - length a) own b (omega arith) in
    let first = take (at - length a) own in
    let last = drop (at + removed - length a) own in
    (λ i. front i ++ (new ++ tail i))
    ∙ (append_assoc a first (new ++ (last ++ b))
    ∙ ap (λ l. a ++ l) (ap (λ l. first ++ l) (sym (append_assoc new last b)) ∙ sym (append_assoc first (new ++ last) b)))

-- A part of a list after another one.
pub part_moved : {X : Type 0} (a own b : List X) (from to n : ℕ) → n ≡ length a → from ≤ to → to ≤ length own
    → take (to + n - (from + n)) (drop (from + n) (a ++ (own ++ b))) ≡ take (to - from) (drop from own)
part_moved a own b from to n e h k =
    let count : to + n - (from + n) ≡ to - from = omega arith in
    let here : drop (from + n) (a ++ (own ++ b)) ≡ drop from own ++ b = drop_past (from + n) a (own ++ b) (omega (arith, e))
    ∙ ((let m : from + n - length a ≡ from = omega (arith, e) in ap (λ i. drop i (own ++ b)) m) ∙ drop-append-le from own b (omega arith)) in
    (λ i. take (count i) (here i)) ∙ take-append-le (to - from) (drop from own) b (long from own (to - from) (omega arith))
  where
    long : {X : Type 0} (from : ℕ) (own : List X) (k : ℕ) → from + k ≤ length own → k ≤ length (drop from own)
    long zero own k h = omega arith
    long (suc from) [] k h = omega arith
    long (suc from) (x ∷ own) k h = long from own k (omega arith)

-- A part of two lists with the same beginning.
pub part_before : {X : Type 0} (xs ys : List X) (from to n : ℕ) → take n xs ≡ take n ys → from ≤ to → to ≤ n → take (to - from) (drop from xs) ≡ take (to - from) (drop from ys)
part_before xs ys from to n e h k =
    let sum : from + (to - from) ≡ to = omega arith in
    let own : take to xs ≡ take to ys = sym (take-take to n xs k) ∙ (ap (take to) e ∙ take-take to n ys k) in
    sym (drop-take from (to - from) xs) ∙ (ap (λ m. drop from (take m xs)) sum ∙ (ap (drop from) own ∙ (ap (λ m. drop from (take m ys)) (sym sum) ∙ drop-take from (to - from) ys)))

-- A part of two lists with the same end, from a place of the one and a place of the other.
pub part_following : {X : Type 0} (xs ys : List X) (from to start gone came : ℕ) → drop (start + came) ys ≡ drop (start + gone) xs → start + gone ≤ from → from ≤ to
    → take (to - gone + came - (from - gone + came)) (drop (from - gone + came) ys) ≡ take (to - from) (drop from xs)
part_following xs ys from to start gone came e h k =
    let rest : ℕ = from - (start + gone) in
    let count : to - gone + came - (from - gone + came) ≡ to - from = omega arith in
    let there : from - gone + came ≡ start + came + rest = omega arith in
    let here : start + gone + rest ≡ from = omega arith in
    let own : drop (from - gone + came) ys ≡ drop from xs =
    ap (λ m. drop m ys) there ∙ (sym (drop-drop rest (start + came) ys) ∙ (ap (drop rest) e ∙ (drop-drop rest (start + gone) xs ∙ ap (λ m. drop m xs) here))) in
    λ i. take (count i) (own i)

pub zip_take : {A B : Type 0} (P : A → B → Type 0) (n : ℕ) (xs : List A) (ys : List B) → AllZip P xs ys → AllZip P (take n xs) (take n ys)
zip_take P zero xs ys all = tt
zip_take P (suc n) [] [] all = tt
zip_take P (suc n) [] (y ∷ ys) all = absurd all
zip_take P (suc n) (x ∷ xs) [] all = absurd all
zip_take P (suc n) (x ∷ xs) (y ∷ ys) all = (all.0, zip_take P n xs ys all.1)

pub zip_drop : {A B : Type 0} (P : A → B → Type 0) (n : ℕ) (xs : List A) (ys : List B) → AllZip P xs ys → AllZip P (drop n xs) (drop n ys)
zip_drop P zero xs ys all = all
zip_drop P (suc n) [] [] all = tt
zip_drop P (suc n) [] (y ∷ ys) all = absurd all
zip_drop P (suc n) (x ∷ xs) [] all = absurd all
zip_drop P (suc n) (x ∷ xs) (y ∷ ys) all = zip_drop P n xs ys all.1

pub zip_both : {A B : Type 0} (P : A → B → Type 0) (xs others : List A) (ys more : List B) → AllZip P xs ys → AllZip P others more → AllZip P (xs ++ others) (ys ++ more)
zip_both P [] others [] more all rest = rest
zip_both P [] others (y ∷ ys) more all rest = absurd all
zip_both P (x ∷ xs) others [] more all rest = absurd all
zip_both P (x ∷ xs) others (y ∷ ys) more all rest = (all.0, zip_both P xs others ys more all.1 rest)

-- What holds of each pair, by what is known of the second of each.
pub zip_given : {A B C : Type 0} (P : A → B → Type 0) (Q : A → C → Type 0) (K : B → Type 0) (f : B → C) (xs : List A) (ys : List B)
    → ((x : A) (y : B) → K y → P x y → Q x (f y)) → All K ys → AllZip P xs ys → AllZip Q xs (map f ys)
zip_given P Q K f [] [] each known all = tt
zip_given P Q K f [] (y ∷ ys) each known all = absurd all
zip_given P Q K f (x ∷ xs) [] each known all = absurd all
zip_given P Q K f (x ∷ xs) (y ∷ ys) each known all = (each x y (known 0 y (omega arith)) all.0, zip_given P Q K f xs ys each (λ i d l. known (suc i) d (omega arith)) all.1)

pub zip_same : {A B : Type 0} (P Q : A → B → Type 0) (K : B → Type 0) (xs : List A) (ys : List B) → ((x : A) (y : B) → K y → P x y → Q x y) → All K ys → AllZip P xs ys → AllZip Q xs ys
zip_same P Q K [] [] each known all = tt
zip_same P Q K [] (y ∷ ys) each known all = absurd all
zip_same P Q K (x ∷ xs) [] each known all = absurd all
zip_same P Q K (x ∷ xs) (y ∷ ys) each known all = (each x y (known 0 y (omega arith)) all.0, zip_same P Q K xs ys each (λ i d l. known (suc i) d (omega arith)) all.1)
