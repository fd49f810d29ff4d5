-- What is moved before an ending is what the strains say.
use Rattle.std.proofs.Common.{◌≡◌, ℕ, Bool, true, false, not, cond, get_or, drop, List, [], ◌∷◌, ◌++◌, map, refl, sym, ap, ◌∙◌, ⊎_elim, append-nil, append_assoc}
use Rattle.std.specs.Prelude.{◌&&◌, ◌||◌}
use Rattle.std.proofs.lemmas.Bool.{and_parts, cases_Bool, cond-true, cond-false}
use Rattle.abc_bars_items.specs.declared.item.Item.{Item}
use Rattle.abc_bars_items.specs.declared.item.Item.TheVariants as items
use Rattle.abc_repeat.specs.declared.mark.Mark.{Mark}
use Rattle.abc_repeat.specs.declared.mark.Mark.TheVariants as marks
use Rattle.abc_repeat.specs.Mark.{is_ending, is_single, opens_next, closes_common, closes_ending}
use Rattle.abc_repeat.specs.Strain.{Strain, without_endings, leads_to_ending, goes_on, put_first, texts_of, strain_of, strains_from}
use Rattle.abc_repeat.proofs.Cuts.{one_or_cut}
use Rattle.abc_repeat.proofs.Existence.{with_plain}
use Rattle.abc_repeat.proofs.Readings.{stays, ends, single_stays, inside_stays, bar_stays, bar_ends, sign_stays, reading_computed}
use Rattle.abc_voices_sections.specs.declared.ending_fields.EndingRegion.{EndingRegion}
use Rattle.abc_voices_sections.specs.declared.ending_fields.EndingRegion.TheVariants.{Common, Inside, AfterBar}
use Rattle.abc_voices.specs.Endings.{without_fields, has_ending, past_its_bar, between_endings, between_endings_of, between_endings_in, with_waits, after_signs, MovesByStrains}
use Rattle.abc_voices_sections.specs.EndingFields.{with_fields_in_endings_from, put_with_waiting, waits, after_mark, after_bar, region_after}
use Rattle.abc_voices_sections.specs.Play.{marks_of}
use Rattle.abc_voices_sections.specs.Step.{is_field, mark_of}

-- the marks of items without their fields
abbrev marks_left : List Item → List Mark
marks_left part = marks_of (without_fields part)

-- what the strains say of marks that are in a common part
abbrev outside : Bool → List Mark → List Bool
outside opened ms = between_endings_in (strains_from opened ms)

-- what a strain says whose common part is in an ending, whose bar has come or not
abbrev in_run : Bool → Strain → List Bool
in_run ended strain = map (λ one. one && has_ending strain.endings) (past_its_bar ended strain.common) ++ between_endings strain.endings

-- the same of some strains, of which the first is such
abbrev in_runs : Bool → List Strain → List Bool
in_runs ended [] = []
in_runs ended (strain ∷ strains) = in_run ended strain ++ between_endings_in strains

-- what the strains say of marks that are in an ending
abbrev inside : Bool → Bool → List Mark → List Bool
inside opened ended ms = in_runs ended (map strain_of (texts_of opened true ms))

-- there is a first text
record Texts (opened within : Bool) (ms : List Mark) : Type 0 where
  pub text : List Mark
  pub texts : List (List Mark)
  pub is : texts_of opened within ms ≡ text ∷ texts

texts : (opened within : Bool) (ms : List Mark) → Texts opened within ms
texts opened within ms = ⊎_elim
    (λ one. record { text = ms; texts = []; is = one })
    (λ cut. record { text = cut.front ++ cut.bar ∷ []; texts = texts_of (opens_next cut.bar) false cut.rest; is = cut.texts })
    (one_or_cut opened within ms)

-- a mark of a common part
out_bar : (opened : Bool) (m : Mark) (ms : List Mark) → is_ending m ≡ false → closes_common opened m ≡ true
    → outside opened (m ∷ ms) ≡ false ∷ outside (opens_next m) ms
out_bar opened m ms plain closes =
    ap (λ l. between_endings_in (map strain_of l)) (ends opened false m ms closes)
    ∙ ap (λ s. between_endings_of s ++ outside (opens_next m) ms) (with_plain m (without_endings []) plain)

out_more : (opened : Bool) (m : Mark) (ms : List Mark) → is_ending m ≡ false → closes_common opened m ≡ false
    → outside opened (m ∷ ms) ≡ false ∷ outside opened ms
out_more opened m ms plain unclosed =
    let t = texts opened false ms in
    ap (λ l. between_endings_in (map strain_of l)) (stays opened false m ms unclosed ∙ ap (λ b. put_first m (texts_of opened b ms)) plain ∙ ap (put_first m) t.is)
    ∙ ap (λ s. between_endings_of s ++ between_endings_in (map strain_of t.texts)) (with_plain m (strain_of t.text) plain)
    ∙ ap (λ l. false ∷ between_endings_in (map strain_of l)) (sym t.is)

-- the sign of an ending
out_sign : (opened : Bool) (numbers : ℕ) (ms : List Mark) → outside opened (marks.Ending numbers ∷ ms) ≡ false ∷ inside opened false ms
out_sign opened numbers ms =
    let t = texts opened true ms in
    ap (λ l. between_endings_in (map strain_of l)) (sign_stays opened false numbers ms ∙ ap (put_first (marks.Ending numbers)) t.is)
    ∙ ap (λ l. false ∷ in_runs false (map strain_of l)) (sym t.is)

in_sign : (opened ended : Bool) (numbers : ℕ) (ms : List Mark) → inside opened ended (marks.Ending numbers ∷ ms) ≡ false ∷ inside opened false ms
in_sign opened ended numbers ms =
    let t = texts opened true ms in
    ap (λ l. in_runs ended (map strain_of l)) (sign_stays opened true numbers ms ∙ ap (put_first (marks.Ending numbers)) t.is)
    ∙ ap (λ l. false ∷ in_runs false (map strain_of l)) (sym t.is)

-- a mark before the run of an ending
in_front : (opened ended : Bool) (m : Mark) (ms : List Mark) (t : Texts opened true ms) → is_ending m ≡ false
    → texts_of opened true (m ∷ ms) ≡ put_first m (texts_of opened true ms)
    → inside opened ended (m ∷ ms)
    ≡ ((ended || closes_ending m) && has_ending (strain_of t.text).endings) ∷ inside opened (ended || closes_ending m) ms
in_front opened ended m ms t plain more =
    ap (λ l. in_runs ended (map strain_of l)) (more ∙ ap (put_first m) t.is)
    ∙ ap (λ s. in_run ended s ++ between_endings_in (map strain_of t.texts)) (with_plain m (strain_of t.text) plain)
    ∙ ap (λ l. ((ended || closes_ending m) && has_ending (strain_of t.text).endings) ∷ in_runs (ended || closes_ending m) (map strain_of l)) (sym t.is)

in_more : (opened : Bool) (m : Mark) (ms : List Mark) → is_ending m ≡ false → closes_ending m ≡ false
    → inside opened false (m ∷ ms) ≡ false ∷ inside opened false ms
in_more opened m ms plain unclosed =
    let t = texts opened true ms in
    in_front opened false m ms t plain (inside_stays opened m ms unclosed)
    ∙ ap (λ b. (b && has_ending (strain_of t.text).endings) ∷ inside opened b ms) unclosed

in_last : (opened : Bool) (m : Mark) (ms : List Mark) → is_ending m ≡ false → closes_ending m ≡ true → goes_on m ms ≡ false
    → inside opened false (m ∷ ms) ≡ false ∷ outside (opens_next m) ms
in_last opened m ms plain closes stops =
    ap (λ l. in_runs false (map strain_of l)) (bar_ends opened m ms closes stops)
    ∙ ap (λ s. in_run false s ++ outside (opens_next m) ms) (with_plain m (without_endings []) plain)
    ∙ ap (λ b. (b && false) ∷ outside (opens_next m) ms) closes

-- the strain goes on if single bars lead to a sign
abbrev first_has : List Strain → Bool
first_has [] = false
first_has (strain ∷ strains) = has_ending strain.endings

leads_first : (opened : Bool) (ms : List Mark) → leads_to_ending ms ≡ true → first_has (map strain_of (texts_of opened true ms)) ≡ true
leads_first opened [] h = cc
leads_first opened (marks.Play ∷ ms) h = cc
leads_first opened (marks.Bar closes opens double ∷ ms) h =
    let t = texts opened true ms in
    let bar = marks.Bar closes opens double in
    let both = and_parts (is_single bar) (leads_to_ending ms) h in
    ap (λ l. first_has (map strain_of l)) (inside_stays opened bar ms (single_stays bar both.0) ∙ ap (put_first bar) t.is)
    ∙ ap (λ l. first_has (map strain_of l)) (sym t.is)
    ∙ leads_first opened ms both.1
leads_first opened (marks.Ending numbers ∷ ms) h =
    let t = texts opened true ms in
    ap (λ l. first_has (map strain_of l)) (sign_stays opened true numbers ms ∙ ap (put_first (marks.Ending numbers)) t.is)

leads : (opened : Bool) (ms : List Mark) (t : Texts opened true ms) → leads_to_ending ms ≡ true → has_ending (strain_of t.text).endings ≡ true
leads opened ms t h = ap (λ l. first_has (map strain_of l)) (sym t.is) ∙ leads_first opened ms h

in_bar : (opened : Bool) (m : Mark) (ms : List Mark) → is_ending m ≡ false → closes_ending m ≡ true → opens_next m ≡ false → leads_to_ending ms ≡ true
    → inside opened false (m ∷ ms) ≡ true ∷ inside opened true ms
in_bar opened m ms plain closes opens ahead =
    let t = texts opened true ms in
    in_front opened false m ms t plain (bar_stays opened m ms (ap (λ b. not b && leads_to_ending ms) opens ∙ ahead))
    ∙ ap (λ b. (b && has_ending (strain_of t.text).endings) ∷ inside opened b ms) closes
    ∙ ap (λ b. b ∷ inside opened true ms) (leads opened ms t ahead)

in_gap : (opened : Bool) (m : Mark) (ms : List Mark) → is_ending m ≡ false → is_single m ≡ true → leads_to_ending ms ≡ true
    → inside opened true (m ∷ ms) ≡ true ∷ inside opened true ms
in_gap opened m ms plain single ahead =
    let t = texts opened true ms in
    in_front opened true m ms t plain (inside_stays opened m ms (single_stays m single))
    ∙ ap (λ b. b ∷ inside opened true ms) (leads opened ms t ahead)

-- a mark of a common part that is no sign, whether it ends the strain or not
record Follows (opened : Bool) (m : Mark) (ms : List Mark) : Type 0 where
  pub following : Bool
  pub is : outside opened (m ∷ ms) ≡ false ∷ outside following ms

follows : (opened : Bool) (m : Mark) (ms : List Mark) → is_ending m ≡ false → Follows opened m ms
follows opened m ms plain = ⊎_elim
    (λ closes. record { following = opens_next m; is = out_bar opened m ms plain closes })
    (λ unclosed. record { following = opened; is = out_more opened m ms plain unclosed })
    (cases_Bool (closes_common opened m))

-- the order of the rest if nothing waits
abbrev says : Bool → List Bool → List Item → List Item
says between others rest = after_signs [] (with_waits between others rest)

and_true : (b : Bool) → (b && true) ≡ b
and_true true = refl
and_true false = refl

left_field : (item : Item) (rest : List Item) → is_field item ≡ true → marks_left (item ∷ rest) ≡ marks_left rest
left_field item rest e = ap marks_of (cond-false (not (is_field item)) (item ∷ without_fields rest) (without_fields rest) (ap not e))

left_other : (item : Item) (rest : List Item) → is_field item ≡ false → marks_left (item ∷ rest) ≡ mark_of item ∷ marks_left rest
left_other item rest e = ap marks_of (cond-true (not (is_field item)) (item ∷ without_fields rest) (without_fields rest) (ap not e))

with_field : (between : Bool) (others : List Bool) (item : Item) (rest : List Item) → is_field item ≡ true → mark_of item ≡ marks.Play
    → with_waits between others (item ∷ rest) ≡ (between, item) ∷ with_waits between others rest
with_field between others item rest e p =
    ap (λ b. (between && not (is_ending (mark_of item)), item) ∷ with_waits (cond b between (get_or others 0 false)) (cond b others (drop 1 others)) rest) e
    ∙ ap (λ b. (b, item) ∷ with_waits between others rest) (ap (λ m. between && not (is_ending m)) p ∙ and_true between)

with_other : (between flag : Bool) (others more : List Bool) (item : Item) (rest : List Item) → is_field item ≡ false → others ≡ flag ∷ more
    → with_waits between others (item ∷ rest) ≡ (between && not (is_ending (mark_of item)), item) ∷ with_waits flag more rest
with_other between flag others more item rest e is =
    ap (λ b. (between && not (is_ending (mark_of item)), item) ∷ with_waits (cond b between (get_or others 0 false)) (cond b others (drop 1 others)) rest) e
    ∙ ap (λ l. (between && not (is_ending (mark_of item)), item) ∷ with_waits (get_or l 0 false) (drop 1 l) rest) is

single_run : (item : Item) → put_with_waiting [] item ≡ item ∷ []
single_run item = elim (is_ending (mark_of item)) as (λ b. cond b (item ∷ []) (item ∷ []) ≡ item ∷ []) [
  | true ↦ refl
  | false ↦ refl
]

-- the walk from a place on, and what the strains say of the rest
record Walks (rest : List Item) : Type 0 where
  pub common : (opened : Bool) → with_fields_in_endings_from Common [] rest ≡ says false (outside opened (marks_left rest)) rest
  pub within : (opened : Bool) → with_fields_in_endings_from Inside [] rest ≡ says false (inside opened false (marks_left rest)) rest
  pub ahead : (opened : Bool) (held : List Item) → leads_to_ending (marks_left rest) ≡ true
      → with_fields_in_endings_from AfterBar held rest ≡ after_signs held (with_waits true (inside opened true (marks_left rest)) rest)
  pub astray : (opened : Bool) (held : List Item) → leads_to_ending (marks_left rest) ≡ false
      → with_fields_in_endings_from AfterBar held rest ≡ held ++ says false (outside opened (marks_left rest)) rest

waiting : (held : List Item) (item : Item) (rest : List Item) → waits AfterBar item ≡ true
    → with_fields_in_endings_from AfterBar held (item ∷ rest) ≡ with_fields_in_endings_from AfterBar (held ++ item ∷ []) rest
waiting held item rest e = cond-true (waits AfterBar item) _ _ e

-- a field
field_flags : (those : List Mark → List Bool) (between : Bool) (item : Item) (rest : List Item) → is_field item ≡ true → mark_of item ≡ marks.Play
    → with_waits between (those (marks_left (item ∷ rest))) (item ∷ rest) ≡ (between, item) ∷ with_waits between (those (marks_left rest)) rest
field_flags those between item rest e p =
    with_field between (those (marks_left (item ∷ rest))) item rest e p
    ∙ ap (λ ms. (between, item) ∷ with_waits between (those ms) rest) (left_field item rest e)

field_step : (item : Item) (rest : List Item) → is_field item ≡ true → mark_of item ≡ marks.Play → Walks rest → Walks (item ∷ rest)
field_step item rest e p w =
    let here : waits AfterBar item ≡ true = ap (λ b. b || is_single (mark_of item)) e in
    let left : leads_to_ending (marks_left rest) ≡ leads_to_ending (marks_left (item ∷ rest)) = ap leads_to_ending (sym (left_field item rest e)) in
    record {
      common = λ opened.
          ap (λ l. l ++ with_fields_in_endings_from (region_after Common (mark_of item)) [] rest) (single_run item)
          ∙ ap (λ m. item ∷ with_fields_in_endings_from (region_after Common m) [] rest) p
          ∙ ap (λ l. item ∷ l) (w.common opened)
          ∙ sym (ap (after_signs []) (field_flags (outside opened) false item rest e p));
      within = λ opened.
          ap (λ l. l ++ with_fields_in_endings_from (region_after Inside (mark_of item)) [] rest) (single_run item)
          ∙ ap (λ m. item ∷ with_fields_in_endings_from (region_after Inside m) [] rest) p
          ∙ ap (λ l. item ∷ l) (w.within opened)
          ∙ sym (ap (after_signs []) (field_flags (inside opened false) false item rest e p));
      ahead = λ opened held h.
          waiting held item rest here
          ∙ w.ahead opened (held ++ item ∷ []) (left ∙ h)
          ∙ sym (ap (after_signs held) (field_flags (inside opened true) true item rest e p));
      astray = λ opened held h.
          waiting held item rest here
          ∙ w.astray opened (held ++ item ∷ []) (left ∙ h)
          ∙ append_assoc held (item ∷ []) (says false (outside opened (marks_left rest)) rest)
          ∙ ap (λ l. held ++ l) (sym (ap (after_signs []) (field_flags (outside opened) false item rest e p)));
    }

-- the sign of an ending
sign_flags : (between : Bool) (those : List Mark → List Bool) (opened : Bool) (numbers : ℕ) (rest : List Item)
    → those (marks.Ending numbers ∷ marks_left rest) ≡ false ∷ inside opened false (marks_left rest)
    → with_waits between (those (marks_left (items.Ending numbers ∷ rest))) (items.Ending numbers ∷ rest)
    ≡ (between && false, items.Ending numbers) ∷ with_waits false (inside opened false (marks_left rest)) rest
sign_flags between those opened numbers rest is =
    with_other between false (those (marks_left (items.Ending numbers ∷ rest))) (inside opened false (marks_left rest)) (items.Ending numbers) rest refl is

sign_step : (numbers : ℕ) (rest : List Item) → Walks rest → Walks (items.Ending numbers ∷ rest)
sign_step numbers rest w = record {
  common = λ opened.
      ap (λ l. items.Ending numbers ∷ l) (w.within opened)
      ∙ sym (ap (after_signs []) (sign_flags false (outside opened) opened numbers rest (out_sign opened numbers (marks_left rest))));
  within = λ opened.
      ap (λ l. items.Ending numbers ∷ l) (w.within opened)
      ∙ sym (ap (after_signs []) (sign_flags false (inside opened false) opened numbers rest (in_sign opened false numbers (marks_left rest))));
  ahead = λ opened held h.
      ap (λ l. items.Ending numbers ∷ (held ++ l)) (w.within opened)
      ∙ sym (ap (after_signs held) (sign_flags true (inside opened true) opened numbers rest (in_sign opened true numbers (marks_left rest))));
  astray = λ opened held h. cc;
}

-- what is neither
plain_flags : (between flag : Bool) (those : List Mark → List Bool) (more : List Bool) (item : Item) (rest : List Item) → is_field item ≡ false → is_ending (mark_of item) ≡ false
    → those (mark_of item ∷ marks_left rest) ≡ flag ∷ more
    → with_waits between (those (marks_left (item ∷ rest))) (item ∷ rest) ≡ (between, item) ∷ with_waits flag more rest
plain_flags between flag those more item rest e plain is =
    with_other between flag (those (marks_left (item ∷ rest))) more item rest e (ap those (left_other item rest e) ∙ is)
    ∙ ap (λ b. (between && not b, item) ∷ with_waits flag more rest) plain
    ∙ ap (λ b. (b, item) ∷ with_waits flag more rest) (and_true between)

plain_common : (opened : Bool) (item : Item) (rest : List Item) → is_field item ≡ false → is_ending (mark_of item) ≡ false → Walks rest
    → with_fields_in_endings_from Common [] (item ∷ rest) ≡ says false (outside opened (marks_left (item ∷ rest))) (item ∷ rest)
plain_common opened item rest e plain w =
    let f = follows opened (mark_of item) (marks_left rest) plain in
    ap (λ l. l ++ with_fields_in_endings_from (region_after Common (mark_of item)) [] rest) (single_run item)
    ∙ ap (λ b. item ∷ with_fields_in_endings_from (cond b Inside Common) [] rest) plain
    ∙ ap (λ l. item ∷ l) (w.common f.following)
    ∙ sym (ap (after_signs []) (plain_flags false false (outside opened) (outside f.following (marks_left rest)) item rest e plain f.is))

-- inside an ending, after an item that is no sign
plain_after : (region : EndingRegion) (opened flag : Bool) (more : List Bool) (item : Item) (rest : List Item) → is_field item ≡ false → is_ending (mark_of item) ≡ false
    → after_mark Inside (mark_of item) ≡ region → inside opened false (mark_of item ∷ marks_left rest) ≡ flag ∷ more
    → with_fields_in_endings_from region [] rest ≡ says flag more rest
    → with_fields_in_endings_from Inside [] (item ∷ rest) ≡ says false (inside opened false (marks_left (item ∷ rest))) (item ∷ rest)
plain_after region opened flag more item rest e plain there is walk =
    ap (λ l. l ++ with_fields_in_endings_from (region_after Inside (mark_of item)) [] rest) (single_run item)
    ∙ ap (λ b. item ∷ with_fields_in_endings_from (cond b Inside (after_mark Inside (mark_of item))) [] rest) plain
    ∙ ap (λ r. item ∷ with_fields_in_endings_from r [] rest) there
    ∙ ap (λ l. item ∷ l) walk
    ∙ sym (ap (after_signs []) (plain_flags false flag (inside opened false) more item rest e plain is))

-- after a bar that ends an ending
bar_after : (opened : Bool) (item : Item) (rest : List Item) → is_field item ≡ false → is_ending (mark_of item) ≡ false → closes_ending (mark_of item) ≡ true → Walks rest
    → with_fields_in_endings_from Inside [] (item ∷ rest) ≡ says false (inside opened false (marks_left (item ∷ rest))) (item ∷ rest)
bar_after opened item rest e plain closes w =
    let m = mark_of item in
    let ms = marks_left rest in
    let there : after_mark Inside m ≡ after_bar m = ap (λ b. cond b (after_bar m) Inside) closes in
    ⊎_elim
    (λ (opens : opens_next m ≡ true).
    plain_after Common opened false (outside (opens_next m) ms) item rest e plain (there ∙ ap (λ b. cond b Common AfterBar) opens)
    (in_last opened m ms plain closes (ap (λ b. not b && leads_to_ending ms) opens)) (w.common (opens_next m)))
    (λ (opens : opens_next m ≡ false). ⊎_elim
    (λ (leads : leads_to_ending ms ≡ true).
    plain_after AfterBar opened true (inside opened true ms) item rest e plain (there ∙ ap (λ b. cond b Common AfterBar) opens)
    (in_bar opened m ms plain closes opens leads) (w.ahead opened [] leads))
    (λ (leads : leads_to_ending ms ≡ false).
    plain_after AfterBar opened false (outside (opens_next m) ms) item rest e plain (there ∙ ap (λ b. cond b Common AfterBar) opens)
    (in_last opened m ms plain closes (ap (λ b. not (opens_next m) && b) leads ∙ none (not (opens_next m)))) (w.astray (opens_next m) [] leads))
    (cases_Bool (leads_to_ending ms)))
    (cases_Bool (opens_next m))
  where
    none : (b : Bool) → (b && false) ≡ false
    none true = refl
    none false = refl

plain_within : (opened : Bool) (item : Item) (rest : List Item) → is_field item ≡ false → is_ending (mark_of item) ≡ false → Walks rest
    → with_fields_in_endings_from Inside [] (item ∷ rest) ≡ says false (inside opened false (marks_left (item ∷ rest))) (item ∷ rest)
plain_within opened item rest e plain w = ⊎_elim
    (λ closes. bar_after opened item rest e plain closes w)
    (λ unclosed. plain_after Inside opened false (inside opened false (marks_left rest)) item rest e plain (ap (λ b. cond b (after_bar (mark_of item)) Inside) unclosed)
    (in_more opened (mark_of item) (marks_left rest) plain unclosed) (w.within opened))
    (cases_Bool (closes_ending (mark_of item)))

-- single bars alone lead on to a sign
led_on : (item : Item) (rest : List Item) (b : Bool) → is_field item ≡ false → is_ending (mark_of item) ≡ false → leads_to_ending (marks_left (item ∷ rest)) ≡ b
    → (is_single (mark_of item) && leads_to_ending (marks_left rest)) ≡ b
led_on item rest b e plain h =
    sym (ap (λ one. one || (is_single (mark_of item) && leads_to_ending (marks_left rest))) plain) ∙ sym (ap leads_to_ending (left_other item rest e)) ∙ h

plain_ahead : (opened : Bool) (held : List Item) (item : Item) (rest : List Item) → is_field item ≡ false → is_ending (mark_of item) ≡ false → Walks rest
    → leads_to_ending (marks_left (item ∷ rest)) ≡ true
    → with_fields_in_endings_from AfterBar held (item ∷ rest) ≡ after_signs held (with_waits true (inside opened true (marks_left (item ∷ rest))) (item ∷ rest))
plain_ahead opened held item rest e plain w h =
    let both = and_parts (is_single (mark_of item)) (leads_to_ending (marks_left rest)) (led_on item rest true e plain h) in
    waiting held item rest (ap (λ b. b || is_single (mark_of item)) e ∙ both.0)
    ∙ w.ahead opened (held ++ item ∷ []) both.1
    ∙ sym (ap (after_signs held) (plain_flags true true (inside opened true) (inside opened true (marks_left rest)) item rest e plain
    (in_gap opened (mark_of item) (marks_left rest) plain both.0 both.1)))

plain_astray : (opened : Bool) (held : List Item) (item : Item) (rest : List Item) → is_field item ≡ false → is_ending (mark_of item) ≡ false → Walks rest
    → leads_to_ending (marks_left (item ∷ rest)) ≡ false
    → with_fields_in_endings_from AfterBar held (item ∷ rest) ≡ held ++ says false (outside opened (marks_left (item ∷ rest))) (item ∷ rest)
plain_astray opened held item rest e plain w h =
    let f = follows opened (mark_of item) (marks_left rest) plain in
    let rest_says = says false (outside f.following (marks_left rest)) rest in
    let walked : with_fields_in_endings_from AfterBar held (item ∷ rest) ≡ (held ++ item ∷ []) ++ rest_says = ⊎_elim
    (λ single.
    waiting held item rest (ap (λ b. b || is_single (mark_of item)) e ∙ single)
    ∙ w.astray f.following (held ++ item ∷ []) (sym (ap (λ b. b && leads_to_ending (marks_left rest)) single) ∙ led_on item rest false e plain h))
    (λ other.
    cond-false (waits AfterBar item) _ _ (ap (λ b. b || is_single (mark_of item)) e ∙ other)
    ∙ ap (λ b. cond b (item ∷ held) (held ++ item ∷ []) ++ with_fields_in_endings_from (cond b Inside Common) [] rest) plain
    ∙ ap (λ l. (held ++ item ∷ []) ++ l) (w.common f.following))
    (cases_Bool (is_single (mark_of item))) in
    walked
    ∙ append_assoc held (item ∷ []) rest_says
    ∙ ap (λ l. held ++ l) (sym (ap (after_signs []) (plain_flags false false (outside opened) (outside f.following (marks_left rest)) item rest e plain f.is)))

plain_step : (item : Item) (rest : List Item) → is_field item ≡ false → is_ending (mark_of item) ≡ false → Walks rest → Walks (item ∷ rest)
plain_step item rest e plain w = record {
  common = λ opened. plain_common opened item rest e plain w;
  within = λ opened. plain_within opened item rest e plain w;
  ahead = λ opened held h. plain_ahead opened held item rest e plain w h;
  astray = λ opened held h. plain_astray opened held item rest e plain w h;
}

walks : (part : List Item) → Walks part
walks [] = record {
  common = λ opened. refl;
  within = λ opened. refl;
  ahead = λ opened held h. refl;
  astray = λ opened held h. sym (append-nil held);
}
walks (items.Ending numbers ∷ rest) = sign_step numbers rest (walks rest)
walks (items.Tempo opening micros out ∷ rest) = field_step (items.Tempo opening micros out) rest refl refl (walks rest)
walks (items.Meter opening meter ∷ rest) = field_step (items.Meter opening meter) rest refl refl (walks rest)
walks (items.Key opening key ∷ rest) = field_step (items.Key opening key) rest refl refl (walks rest)
walks (items.Program opening number ∷ rest) = field_step (items.Program opening number) rest refl refl (walks rest)
walks (item ∷ rest) = plain_step item rest refl refl (walks rest)

pub moves_by_strains : MovesByStrains
moves_by_strains part strains are =
    (walks part).common false ∙ ap (λ those. says false (between_endings_in those) part) (reading_computed are)
