-- The promises of a reader of a token beside its result.
use Rattle.std.proofs.Common.{◌≡◌, ℕ, suc, ◌+◌, ◌≤◌, ◌<◌, Bool, true, cond, Option, Some, None, List, ◌∷◌, ◌++◌, length, take, refl, sym, ap, subst, ⊎_elim, arith, length-append}
use Rattle.std.specs.Prelude.{IfSome, ◌==◌, ◌&&◌}
use Rattle.std.specs.Option.{option_map}
use Rattle.std.proofs.lemmas.Bool.{cond_both, cases_lt, eqb-true, and_parts}
use Rattle.abc_scan.specs.Cutting.{as_kind, of_kind}
use Rattle.abc_scan.specs.Front.{IsFront, after_byte}

-- if the front of its text spells this value, it finds nothing shorter, and if as long the same
pub record Finds {V : Type 0} (read : Option (V × ℕ)) (front : List ℕ) (value : V) : Type 0 where
  pub found : V
  pub size : ℕ
  pub is_read : read ≡ Some (found, size)
  pub long : length front ≤ size
  pub same : length front ≡ size → value ≡ found

-- the same of a reader that finds something in every text
abbrev pub Covers : {V : Type 0} → V × ℕ → List ℕ → V → Type 0
Covers read front value = (length front ≤ read.1) × (length front ≡ read.1 → value ≡ read.0)

-- it finds a value that a front of the text spells
abbrev pub IsSpelled : {V : Type 0} → (List ℕ → V → Type 0) → List ℕ → V × ℕ → Type 0
IsSpelled spells text read = IsFront text read.1 × spells (take read.1 text) read.0

-- the same of a reader that finds only a size
abbrev pub IsSized : (List ℕ → Type 0) → List ℕ → ℕ → Type 0
IsSized spells text size = IsFront text size × spells (take size text)

pub one_front : (b : ℕ) (rest : List ℕ) → IsFront (b ∷ rest) 1
one_front b rest = record { some = omega arith; inside = omega arith }

pub front_more : (n b : ℕ) (rest : List ℕ) → n ≤ length rest → IsFront (b ∷ rest) (1 + n)
front_more n b rest inside = record { some = omega arith; inside = omega arith }

-- a law of each value that is found, and of the value made from it
pub mapped : {A B : Type 0} (P : A → Type 0) (Q : B → Type 0) (f : A → B) (o : Option A) → ((x : A) → P x → Q (f x)) → IfSome o P → IfSome (option_map f o) Q
mapped P Q f None step h = tt
mapped P Q f (Some x) step h = step x h

pub weaker : {A : Type 0} (P Q : A → Type 0) (o : Option A) → ((x : A) → P x → Q x) → IfSome o P → IfSome o Q
weaker P Q None step h = tt
weaker P Q (Some x) step h = step x h

pub none_found : {A : Type 0} (P : A → Type 0) (o : Option A) → ((x : A) → P x → ⊥) → IfSome o P → o ≡ None
none_found P None never h = refl
none_found P (Some x) never h = absurd (never x h)

-- a value that is found, as a kind of token or of a part of a chord
pub wrapped-sound : {V K : Type 0} (Is : List ℕ → V → Type 0) (spells : List ℕ → K → Type 0) (wrap : V → K) (text : List ℕ) (o : Option (V × ℕ))
    → ((front : List ℕ) (x : V) → Is front x → spells front (wrap x)) → IfSome o (IsSpelled Is text) → IfSome (as_kind wrap o) (IsSpelled spells text)
wrapped-sound Is spells wrap text None spelled h = tt
wrapped-sound Is spells wrap text (Some read) spelled h = (h.0, spelled (take read.1 text) read.0 h.1)

pub sized-sound : {K : Type 0} (Is : List ℕ → Type 0) (spells : List ℕ → K → Type 0) (kind : K) (text : List ℕ) (o : Option ℕ)
    → ((front : List ℕ) → Is front → spells front kind) → IfSome o (IsSized Is text) → IfSome (of_kind kind o) (IsSpelled spells text)
sized-sound Is spells kind text None spelled h = tt
sized-sound Is spells kind text (Some size) spelled h = (h.0, spelled (take size text) h.1)

pub finds-wrapped : {V K : Type 0} (wrap : V → K) (o : Option (V × ℕ)) (front : List ℕ) (value : V) → Finds o front value → Finds (as_kind wrap o) front (wrap value)
finds-wrapped wrap o front value f = record { found = wrap f.found; size = f.size; is_read = ap (as_kind wrap) f.is_read; long = f.long; same = λ e. ap wrap (f.same e) }

pub finds-sized : {K : Type 0} (kind : K) (o : Option ℕ) (front : List ℕ) (size : ℕ) → o ≡ Some size → length front ≤ size → Finds (of_kind kind o) front kind
finds-sized kind o front size read long = record { found = kind; size = size; is_read = ap (of_kind kind) read; long = long; same = λ _. refl }

pub finds-one : {K : Type 0} (kind : K) (front : List ℕ) → length front ≡ 1 → Finds (Some (kind, 1)) front kind
finds-one kind front one = record { found = kind; size = 1; is_read = refl; long = omega (arith, one); same = λ _. refl }

-- a byte, and the value found after it
pub finds-after : {V : Type 0} (o : Option (V × ℕ)) (front : List ℕ) (value : V) (b : ℕ) (written : List ℕ) (read : V × ℕ) → front ≡ b ∷ written → o ≡ Some (after_byte read)
    → Covers read written value → Finds o front value
finds-after o front value b written read spelled is covers =
    let long : length front ≡ suc (length written) = ap length spelled in
    record { found = read.0; size = 1 + read.1; is_read = is; long = omega (arith, long, covers.0); same = λ e. covers.1 (omega (arith, long, e)) }

-- a reader after another: if the first takes more than its own bytes, nothing is left to the second
pub covers_both : {A B : Type 0} (first : A × ℕ) (second : B × ℕ) (a b : List ℕ) (x : A) (y : B) → Covers first a x → (length a ≡ first.1 → Covers second b y)
    → (0 < length b → first.1 ≤ length a) → Covers {V = A × B} ((first.0, second.0), first.1 + second.1) (a ++ b) (x, y)
covers_both first second a b x y one two apart =
    let sum = length-append a b in
    ⊎_elim
    (λ more. ⊎_elim
    (λ some. absurd (omega (arith, more, apart some)))
    (λ none. (omega (arith, sum, more, none), λ e. absurd (omega (arith, sum, more, none, e))))
    (cases_lt 0 (length b)))
    (λ upto.
    let exact : length a ≡ first.1 = omega (arith, upto, one.0) in
    let next = two exact in
    (omega (arith, sum, exact, next.0), λ e. let rest = next.1 (omega (arith, sum, exact, e)) in λ i. (one.1 exact i, rest i)))
    (cases_lt (length a) first.1)

-- the value found if a text begins with this byte
pub byte_first : {A : Type 0} (P : List ℕ → A → Type 0) (byte b : ℕ) (bs : List ℕ) (o other : Option A) → IfSome o (P (byte ∷ bs)) → IfSome other (P (b ∷ bs))
    → IfSome (cond (b == byte) o other) (P (b ∷ bs))
byte_first P byte b bs o other h more =
    cond_both (b == byte) o other (λ x. IfSome x (P (b ∷ bs))) (λ e. subst (λ x. IfSome o (P (x ∷ bs))) (sym (eqb-true b byte e)) h) (λ _. more)

pub byte_and : {A : Type 0} (P : List ℕ → A → Type 0) (byte b : ℕ) (bs : List ℕ) (test : Bool) (o : Option A) → (test ≡ true → IfSome o (P (byte ∷ bs)))
    → IfSome (cond ((b == byte) && test) o None) (P (b ∷ bs))
byte_and P byte b bs test o h =
    cond_both ((b == byte) && test) o None (λ x. IfSome x (P (b ∷ bs)))
    (λ e. let parts = and_parts _ _ e in subst (λ x. IfSome o (P (x ∷ bs))) (sym (eqb-true b byte parts.0)) (h parts.1))
    (λ _. tt)
