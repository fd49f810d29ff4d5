-- Tuplets that are open, looked back for.
use Rattle.std.proofs.Common.{◌≡◌, ◌≤◌, ◌&&◌, ℕ, suc, Bool, true, false, cond, List, [], ◌∷◌, Option, Some, None, unwrap_or, refl, sym, ap, ◌∙◌, arith}
use Rattle.std.proofs.lemmas.Bool.Decides.{nat_tests}
use Rattle.abc_fields.specs.declared.meter.Meter.{Meter}
use Rattle.abc_scan.specs.declared.tuplet.Tuplet.{Tuplet}
use Rattle.abc_bars_notes.specs.Broken.{is_time_token}
use Rattle.abc_bars_voice.specs.Tuplet.{OpenTuplet, tuplet_by, begin_tuplet, tuplet_after_mark, is_tuplet_number, count_down, default_q}
use Rattle.abc_bars.specs.LookBack.Element.{Element}
use Rattle.abc_bars.specs.LookBack.Voice.{meter_at, left_after, one_more_if, tuplet_from, tuplet_or, tuplet_said}

-- One more time token leaves one less of a tuplet.
left-suc : (passed : ℕ) (tuplet : OpenTuplet) → left_after (suc passed) tuplet ≡ count_down (left_after passed tuplet)
left-suc passed tuplet = grind (arith, nat_tests)

passing-suc : (b : Bool) (passed : ℕ) → one_more_if b (suc passed) ≡ suc (one_more_if b passed)
passing-suc true passed = refl
passing-suc false passed = refl

or-suc : (t : Option OpenTuplet) (passed : ℕ) (later earlier : Option OpenTuplet) → later ≡ count_down earlier
    → tuplet_or t (suc passed) later ≡ count_down (tuplet_or t passed earlier)
or-suc (Some tuplet) passed later earlier h = left-suc passed tuplet
or-suc None passed later earlier h = h

-- One more time token after a place leaves one less of the tuplet that is open there.
pub tuplet_from-suc : (opening : Meter) (passed : ℕ) (before : List Element) → tuplet_from opening (suc passed) before ≡ count_down (tuplet_from opening passed before)
tuplet_from-suc opening passed [] = refl
tuplet_from-suc opening passed (element ∷ before) =
    or-suc (tuplet_said (meter_at opening before) element.kind) passed _ _
    (ap (λ n. tuplet_from opening n before) (passing-suc (is_time_token element.kind) passed)
    ∙ tuplet_from-suc opening (one_more_if (is_time_token element.kind) passed) before)

-- A number that a tuplet may have is one at least.
number-least : (n : ℕ) → is_tuplet_number n ≡ true → 1 ≤ n
number-least n h = grind (arith, nat_tests)

-- All of a tuplet that takes any notes is left at its mark.
left-zero : (tuplet : OpenTuplet) → 1 ≤ tuplet.left → left_after 0 tuplet ≡ Some tuplet
left-zero tuplet some = grind (arith, nat_tests)

tuplet_after_mark-new : (old : Option OpenTuplet) (new : OpenTuplet) → (tuplet_after_mark old (Some new)).0 ≡ Some new
tuplet_after_mark-new None new = refl
tuplet_after_mark-new (Some old) new = refl

mark-by : (b c : Bool) (tuplet : OpenTuplet) (old : Option OpenTuplet) → is_tuplet_number tuplet.left ≡ c
    → tuplet_or (cond (b && c) (Some tuplet) None) 0 old ≡ (tuplet_after_mark old (cond (b && c) (Some tuplet) None)).0
mark-by true true tuplet old e = left-zero tuplet (number-least tuplet.left e) ∙ sym (tuplet_after_mark-new old tuplet)
mark-by true false tuplet old e = refl
mark-by false c tuplet old e = refl

-- After a mark the tuplet is open that the mark leaves.
pub at-mark : (meter : Meter) (mark : Tuplet) (old : Option OpenTuplet) → tuplet_or (tuplet_by meter mark) 0 old ≡ (begin_tuplet meter old mark).0
at-mark meter mark old =
    let q : ℕ = unwrap_or mark.q (default_q meter mark.p) in
    let r : ℕ = unwrap_or mark.r mark.p in
    mark-by (is_tuplet_number mark.p && is_tuplet_number q) (is_tuplet_number r) (record { p = mark.p; q = q; left = r }) old refl
