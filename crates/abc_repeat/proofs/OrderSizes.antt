-- The number of sections that the front of an order plays.
use Rattle.std.proofs.Common.{◌≡◌, ℕ, ◌+◌, ◌-◌, ◌*◌, ◌^◌, ◌<◌, true, false, min, List, [], ◌∷◌, ◌++◌, length, replicate, Option, None, Some, IsSome, refl, sym, ap, ◌∙◌, subst, arith, length-append}
use Rattle.std.specs.List.{concat, cons_option, filter_map}
use Rattle.std.specs.Option.{option_to_list, unwrap_or, is_some}
use mir.Val.{bool_byte}
use Rattle.std.specs.Char.{is_ascii_digit, is_ascii_uppercase}
use Rattle.std.proofs.lemmas.List.Elements.{filter_map-append}
use Rattle.arrayvec.specs.ArrayVec.{ArrayVec}
use Rattle.abc_fields.specs.Letters.{OrderLetters, count_or_once, letters_so_far, close_group, count_on, is_order_byte, read_on}
use Rattle.abc_fields.proofs.Fronts.{reads_letter, reads_open, reads_close, reads_digit, reads_silent}
use Rattle.abc_repeat.specs.declared.order_size.OrderSize.{OrderSize}
use Rattle.abc_repeat.specs.OrderSize.{size_of, sizes_of, IsSizeOf}
use Rattle.abc_repeat.proofs.Numbers.{min-product, sizes_join}
use Rattle.abc_repeat.proofs.OrderLists.{filter_map-copies, length-copies, popped, popped_none}

pub times_of : (count : Option ℕ) → unwrap_or count 1 ≡ count_or_once count
times_of None = refl
times_of (Some n) = refl

-- the play of the innermost group
pub so_far_size : (section : ℕ → Option ℕ) (before item : List ℕ) (n b i product top : ℕ) → b ≡ min (length (filter_map section before)) top → i ≡ min (length (filter_map section item)) top
    → product ≡ min (i * n) top → min (b + product) top ≡ min (length (filter_map section (before ++ concat (replicate n item)))) top
so_far_size section before item n b i product top before_is item_is multiplied =
    let whole : length (filter_map section (before ++ concat (replicate n item))) ≡ length (filter_map section before) + length (filter_map section item) * n =
    ap length (filter_map-append section before (concat (replicate n item)))
    ∙ length-append (filter_map section before) (filter_map section (concat (replicate n item)))
    ∙ ap (λ l. length (filter_map section before) + length l) (filter_map-copies section n item)
    ∙ ap (λ k. length (filter_map section before) + k) (length-copies n (filter_map section item))
    ∙ omega arith in
    let times : product ≡ min (length (filter_map section item) * n) top = multiplied ∙ ap (λ q. min (q * n) top) item_is ∙ min-product (length (filter_map section item)) n top in
    sizes_join b product (length (filter_map section before)) (length (filter_map section item) * n) (length (filter_map section (before ++ concat (replicate n item)))) top before_is times whole

-- one letter
one_size : (o : Option ℕ) → bool_byte (is_some o) ≡ min (length (cons_option o [])) (2 ^ 64 - 1)
one_size None = refl
one_size (Some k) = refl

pub letter_sized : (section : ℕ → Option ℕ) (played : OrderLetters) (size : OrderSize) (b total i : ℕ) → IsSizeOf section played size
    → is_ascii_uppercase b ≡ true → total ≡ size_of section (letters_so_far played)
    → i ≡ bool_byte (is_some (section b)) → IsSizeOf section (read_on played b) (record { around = size.around; before = total; item = i; count = None })
letter_sized section played size b total i is upper far one =
    subst (λ p. IsSizeOf section p (record { around = size.around; before = total; item = i; count = None })) (sym (reads_letter played b upper))
    (record { around = is.around; before = far; item = one ∙ one_size (section b); count = refl })

-- the beginning of a group
pub open_sized : (section : ℕ → Option ℕ) (played : OrderLetters) (size : OrderSize) (around : ArrayVec ℕ) (b total : ℕ)
    → IsSizeOf section played size → b ≡ 40 → total ≡ size_of section (letters_so_far played)
    → around.items ≡ size.around.items ++ total ∷ [] → IsSizeOf section (read_on played b) (record { around = around; before = 0; item = 0; count = None })
open_sized section played size around b total is opens far pushed =
    subst (λ p. IsSizeOf section p (record { around = around; before = 0; item = 0; count = None })) (sym (ap (read_on played) opens ∙ reads_open played))
    (record { around = pushed ∙ ap (λ l. l ++ total ∷ []) is.around ∙ ap (λ k. sizes_of section played.around ++ k ∷ []) far; before = refl; item = refl; count = refl })

-- the end of a group
closed_size : (section : ℕ → Option ℕ) (outer : List (List ℕ)) (inner : List ℕ) (around rest : ArrayVec ℕ) (last : Option ℕ) (total : ℕ) → around.items ≡ sizes_of section outer
    → around.items ≡ rest.items ++ option_to_list last → (0 < length around.items → IsSome last) → total ≡ size_of section inner
    → IsSizeOf section (close_group outer inner) (record { around = rest; before = unwrap_or last 0; item = total; count = None })
closed_size section [] inner around rest last total is split some far =
    let none = popped_none around.items rest.items last is split in
    record { around = none.0; before = ap (λ o. unwrap_or o 0) none.1; item = far; count = refl }
closed_size section (before ∷ outer) inner around rest last total is split some far =
    let one = popped around.items (sizes_of section outer) rest.items (size_of section before) last is split some in
    record { around = one.0; before = ap (λ o. unwrap_or o 0) one.1; item = far; count = refl }

pub close_sized : (section : ℕ → Option ℕ) (played : OrderLetters) (size : OrderSize) (rest : ArrayVec ℕ) (last : Option ℕ) (b total before : ℕ) → IsSizeOf section played size → b ≡ 41
    → size.around.items ≡ rest.items ++ option_to_list last → (0 < length size.around.items → IsSome last) → before ≡ unwrap_or last 0 → total ≡ size_of section (letters_so_far played)
    → IsSizeOf section (read_on played b) (record { around = rest; before = before; item = total; count = None })
close_sized section played size rest last b total before is closes split some outside far =
    subst (λ k. IsSizeOf section (read_on played b) (record { around = rest; before = k; item = total; count = None })) (sym outside)
    (subst (λ p. IsSizeOf section p (record { around = rest; before = unwrap_or last 0; item = total; count = None })) (sym (ap (read_on played) closes ∙ reads_close played))
    (closed_size section played.around (letters_so_far played) size.around rest last total is.around split some far))

-- one digit
pub digit_sized : (section : ℕ → Option ℕ) (played : OrderLetters) (size : OrderSize) (b n : ℕ) → IsSizeOf section played size → is_ascii_digit b ≡ true → n ≡ count_on size.count b
    → IsSizeOf section (read_on played b) (record size { count = Some n })
digit_sized section played size b n is digit longer =
    subst (λ p. IsSizeOf section p (record size { count = Some n })) (sym (reads_digit played b digit))
    (record { around = is.around; before = is.before; item = is.item; count = ap Some (longer ∙ ap (λ o. count_on o b) is.count) })

-- a byte without a meaning
pub silent_sized : (section : ℕ → Option ℕ) (played : OrderLetters) (size : OrderSize) (b : ℕ) → IsSizeOf section played size → is_order_byte b ≡ false → IsSizeOf section (read_on played b) size
silent_sized section played size b is silent = subst (λ p. IsSizeOf section p size) (sym (reads_silent played b silent)) is

-- the same number of groups is open
pub length-sizes : (section : ℕ → Option ℕ) (around : List (List ℕ)) → length (sizes_of section around) ≡ length around
length-sizes section [] = refl
length-sizes section (letters ∷ around) = length-append (sizes_of section around) (size_of section letters ∷ []) ∙ ap (λ k. k + 1) (length-sizes section around) ∙ omega arith
