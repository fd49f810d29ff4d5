-- The play of the front of an order, byte by byte.
use Rattle.std.proofs.Common.{◌≡◌, ℕ, ◌+◌, ◌<◌, ◌≤◌, false, true, List, [], ◌∷◌, ◌++◌, length, take, drop, replicate, Option, None, Some, IsSome, Vec}
use Rattle.std.proofs.Common.{Global, refl, sym, ap, ◌∙◌, subst, arith, length-append, append_assoc, append-nil}
use Rattle.std.specs.List.{concat, cons_option, filter_map}
use Rattle.std.specs.Option.{option_to_list, unwrap_or}
use Rattle.std.specs.Char.{is_ascii_digit, is_ascii_uppercase}
use Rattle.std.proofs.lemmas.List.{take_at, drop_at}
use Rattle.std.proofs.lemmas.List.Elements.{filter_map-append}
use Rattle.arrayvec.specs.ArrayVec.{ArrayVec}
use Rattle.abc_fields.specs.Letters.{OrderLetters, letters_so_far, with_item, close_group, count_on, is_order_byte, read_on}
use Rattle.abc_fields.proofs.Fronts.{reads_letter, reads_open, reads_close, reads_digit, reads_silent}
use Rattle.abc_repeat.specs.declared.order_play.OrderPlay.{OrderPlay}
use Rattle.abc_repeat.specs.OrderPlay.{letters_around, sections_with, group_begins, IsPlayOf}
use Rattle.abc_repeat.proofs.OrderLists.{filter_map-copies, popped, popped_none}

-- the sections of letters and of more letters
sections-append : (section : ℕ → Option ℕ) (front back : List ℕ) → sections_with section (front ++ back) ≡ sections_with section front ++ filter_map section back
sections-append section front back = ap (λ l. 0 ∷ l) (filter_map-append section front back)

-- the last item begins inside
pub begins_inside : (section : ℕ → Option ℕ) (played : OrderLetters) (play : OrderPlay) → IsPlayOf section played play → play.begin ≤ length play.sections.items
begins_inside section played play is =
    let whole = ap length (is.sections ∙ sections-append section (letters_around played.around ++ played.before) played.item) in
    omega (arith, whole, is.begin, length-append (sections_with section (letters_around played.around ++ played.before)) (filter_map section played.item))

-- the last item is played `count` times
pub item_ended : (section : ℕ → Option ℕ) (around before item items : List ℕ) (begin n : ℕ)
    → items ≡ sections_with section (around ++ before ++ item) → begin ≡ length (sections_with section (around ++ before))
    → take begin items ++ concat (replicate n (drop begin items)) ≡ sections_with section (around ++ (before ++ concat (replicate n item)))
item_ended section around before item items begin n is begins =
    let front = sections_with section (around ++ before) in
    let split : items ≡ front ++ filter_map section item = is ∙ sections-append section (around ++ before) item in
    let taken : take begin items ≡ front = ap (take begin) split ∙ take_at front (filter_map section item) begin (sym begins) in
    let dropped : drop begin items ≡ filter_map section item = ap (drop begin) split ∙ drop_at front (filter_map section item) begin (sym begins) in
    ap (λ l. l ++ concat (replicate n (drop begin items))) taken
    ∙ ap (λ l. front ++ concat (replicate n l)) dropped
    ∙ ap (λ l. front ++ l) (sym (filter_map-copies section n item))
    ∙ sym (sections-append section (around ++ before) (concat (replicate n item)))
    ∙ ap (sections_with section) (append_assoc around before (concat (replicate n item)))

abbrev ended : OrderPlay → Vec ℕ Global → ℕ → OrderPlay
ended play sections begin = record { sections = sections; groups = play.groups; begin = begin; count = None }

pub end_played : (section : ℕ → Option ℕ) (played : OrderLetters) (play : OrderPlay) (sections : Vec ℕ Global) (begin : ℕ) → IsPlayOf section played play
    → sections.items ≡ sections_with section (letters_around played.around ++ letters_so_far played) → begin ≡ length sections.items
    → IsPlayOf section (with_item played.around (letters_so_far played) []) (ended play sections begin)
end_played section played play sections begin is whole begins = record {
  sections = whole ∙ ap (sections_with section) (sym (append-nil (letters_around played.around ++ letters_so_far played)));
  groups = is.groups;
  begin = begins ∙ ap length whole;
  count = refl;
}

-- one letter, after an item that is ended
one_section : (o : Option ℕ) → cons_option o [] ≡ option_to_list o
one_section None = refl
one_section (Some k) = refl

pub letter_played : (section : ℕ → Option ℕ) (played : OrderLetters) (play : OrderPlay) (sections : Vec ℕ Global) (b : ℕ)
    → is_ascii_uppercase b ≡ true → IsPlayOf section (with_item played.around (letters_so_far played) []) play
    → sections.items ≡ play.sections.items ++ option_to_list (section b) → IsPlayOf section (read_on played b) (record play { sections = sections })
letter_played section played play sections b upper is pushed =
    let front = letters_around played.around ++ letters_so_far played in
    subst (λ p. IsPlayOf section p (record play { sections = sections })) (sym (reads_letter played b upper))
    (record {
      sections =
          pushed
          ∙ ap (λ l. l ++ option_to_list (section b)) (is.sections ∙ ap (sections_with section) (append-nil front))
          ∙ ap (λ l. sections_with section front ++ l) (sym (one_section (section b)))
          ∙ sym (sections-append section front (b ∷ []));
      groups = is.groups;
      begin = is.begin;
      count = is.count;
    })

-- the beginning of a group
pub open_played : (section : ℕ → Option ℕ) (played : OrderLetters) (play : OrderPlay) (groups : ArrayVec ℕ) (b : ℕ) → b ≡ 40 → IsPlayOf section (with_item played.around (letters_so_far played) []) play
    → groups.items ≡ play.groups.items ++ play.begin ∷ [] → IsPlayOf section (read_on played b) (record play { groups = groups })
open_played section played play groups b opens is pushed =
    let front = letters_around played.around ++ letters_so_far played in
    subst (λ p. IsPlayOf section p (record play { groups = groups })) (sym (ap (read_on played) opens ∙ reads_open played))
    (record {
      sections = is.sections ∙ ap (λ l. sections_with section (l ++ [])) (sym (append-nil front));
      groups = pushed ∙ ap (λ l. l ++ play.begin ∷ []) is.groups ∙ ap (λ k. group_begins section played.around ++ k ∷ []) is.begin;
      begin = is.begin ∙ ap (λ l. length (sections_with section l)) (sym (append-nil front));
      count = is.count;
    })

-- the end of a group
closed : (section : ℕ → Option ℕ) (around : List (List ℕ)) (inner : List ℕ) (play : OrderPlay) (rest : ArrayVec ℕ) (last : Option ℕ) → IsPlayOf section (with_item around inner []) play
    → play.groups.items ≡ rest.items ++ option_to_list last → (0 < length play.groups.items → IsSome last)
    → IsPlayOf section (close_group around inner) (record play { groups = rest; begin = unwrap_or last 1 })
closed section [] inner play rest last is split some =
    let none = popped_none play.groups.items rest.items last is.groups split in
    record { sections = is.sections ∙ ap (sections_with section) (append-nil inner); groups = none.0; begin = ap (λ o. unwrap_or o 1) none.1; count = is.count }
closed section (before ∷ outer) inner play rest last is split some =
    let one = popped play.groups.items (group_begins section outer) rest.items (length (sections_with section (letters_around outer ++ before))) last is.groups split some in
    record {
      sections = is.sections ∙ ap (sections_with section) (append-nil ((letters_around outer ++ before) ++ inner));
      groups = one.0;
      begin = ap (λ o. unwrap_or o 1) one.1;
      count = is.count;
    }

pub close_played : (section : ℕ → Option ℕ) (played : OrderLetters) (play : OrderPlay) (rest : ArrayVec ℕ) (last : Option ℕ) (b begin : ℕ) → b ≡ 41
    → IsPlayOf section (with_item played.around (letters_so_far played) []) play → play.groups.items ≡ rest.items ++ option_to_list last → (0 < length play.groups.items → IsSome last)
    → begin ≡ unwrap_or last 1 → IsPlayOf section (read_on played b) (record play { groups = rest; begin = begin })
close_played section played play rest last b begin closes is split some begins =
    subst (λ k. IsPlayOf section (read_on played b) (record play { groups = rest; begin = k })) (sym begins)
    (subst (λ p. IsPlayOf section p (record play { groups = rest; begin = unwrap_or last 1 })) (sym (ap (read_on played) closes ∙ reads_close played))
    (closed section played.around (letters_so_far played) play rest last is split some))

-- one digit
pub digit_played : (section : ℕ → Option ℕ) (played : OrderLetters) (play : OrderPlay) (b n : ℕ) → IsPlayOf section played play → is_ascii_digit b ≡ true → n ≡ count_on play.count b
    → IsPlayOf section (read_on played b) (record play { count = Some n })
digit_played section played play b n is digit longer =
    subst (λ p. IsPlayOf section p (record play { count = Some n })) (sym (reads_digit played b digit))
    (record { sections = is.sections; groups = is.groups; begin = is.begin; count = ap Some (longer ∙ ap (λ o. count_on o b) is.count) })

-- a byte without a meaning
pub silent_played : (section : ℕ → Option ℕ) (played : OrderLetters) (play : OrderPlay) (b : ℕ) → IsPlayOf section played play → is_order_byte b ≡ false → IsPlayOf section (read_on played b) play
silent_played section played play b is silent = subst (λ p. IsPlayOf section p play) (sym (reads_silent played b silent)) is

-- the same number of groups is open
pub length-begins : (section : ℕ → Option ℕ) (around : List (List ℕ)) → length (group_begins section around) ≡ length around
length-begins section [] = refl
length-begins section (before ∷ around) =
    length-append (group_begins section around) (length (sections_with section (letters_around around ++ before)) ∷ []) ∙ ap (λ k. k + 1) (length-begins section around) ∙ omega arith
