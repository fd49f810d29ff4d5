-- A performed item takes its time.
use Rattle.std.proofs.Common.{◌≡◌, ℕ, ◌+◌, ◌-◌, ◌*◌, ◌/◌, ◌<◌, ◌≤◌, ◌==◌, ◌&&◌, Bool, true, false, List, [], ◌∷◌, ◌++◌, length, map, take, Option, Some, None, refl, sym, arith, ◌∙◌}
use Rattle.std.specs.Prelude.{IfSome, if◌then◌else◌, nat_le, nat_lt, ℤ}
use Rattle.std.proofs.lemmas.Bool.{leb-true}
use Rattle.std.proofs.lemmas.Bool.Decides.{leb_tells}
use Rattle.std.proofs.lemmas.List.Sums.{sum_by-append, sum_by-cons, sum_by_push}
use Rattle.std.proofs.Math.Nat.{mul-div-le}
use Rattle.abc_time.specs.declared.grains.Grains.{Grains}
use Rattle.abc_bars_items.specs.declared.item.Tone.{Tone}
use Rattle.abc_perform_note.proofs.Shares.{equal_shares}
use Rattle.abc_perform_note.specs.declared.grace.GraceShare.{GraceShare}
use Rattle.abc_perform_note.specs.declared.grace.GraceShare.TheVariants.{Wanted, Equal}
use Rattle.abc_perform_note.specs.declared.part.Part.{Part}
use Rattle.abc_perform_note.specs.Grace.{grace_share, taken, taken_time, wanted_time}
use Rattle.abc_perform_note.specs.Mordents.{short_part}
use Rattle.abc_perform_note.specs.Part.{duration, part, with_rest}
use Rattle.abc_perform_note.specs.Rolls.{twelfths}
use Rattle.abc_perform_note.specs.Slides.{slide_of}
use Rattle.abc_perform_note.specs.Trills.{alternations, pairs_in, trill_of}
use Rattle.abc_perform_note.proofs.Alternations.{alternations_within}
use Rattle.abc_marks.specs.declared.decoration.Ornament.{Ornament}
use Rattle.abc_marks.specs.declared.decoration.Ornament.TheVariants as ornaments
use Rattle.abc_perform_item.specs.declared.decorations.OrnamentMark.{OrnamentMark}
use Rattle.abc_perform_item.specs.SpreadChord.{step_item, step_items}
use Rattle.abc_perform_item.specs.declared.graces.Grace.{Grace}
use Rattle.abc_perform_item.specs.declared.performed.Performed.{Performed}
use Rattle.abc_perform_item.specs.declared.performed.Place.{Place}
use Rattle.abc_perform_item.specs.declared.tone_change.ToneChange.{ToneChange}
use Rattle.abc_perform_item.specs.GraceItems.{grace_item, wants_of}
use Rattle.abc_perform_item.specs.Ornamented.{mordent_parts, moved_ornament, ornament_parts, part_item, part_items, parts_by, parts_of_key, parts_of_note, roll_parts, slide_parts, trill_parts, turn_parts}
use Rattle.abc_perform_item.specs.Time.{GraceItemsTakeShares, GracesTakeHalf, PartsTakeTime, StepsTakeTime, time_of, time_of_all}
use Rattle.abc_perform_item.specs.ToneChange.{changed_key}

-- Grace notes take what their shares are.
graces-time : (transpose : ℤ) (share : GraceShare) (graces : List Grace)
    → time_of_all (map (grace_item transpose share) graces) ≡ taken_time share (wants_of graces)
graces-time transpose share [] = refl
graces-time transpose share (grace ∷ graces) =
    let rest = graces-time transpose share graces in
    let first = sum_by-cons (λ (one : Performed). time_of one.item) (grace_item transpose share grace) (map (grace_item transpose share) graces) in
    let second = sum_by-cons (λ (want : Grains). (taken share want).0) grace.note.wanted (wants_of graces) in
    omega (arith, rest, first, second)

-- The parts of a note take as long one after another as items.
parts-time : (change : ToneChange) (tone : Tone) (place : Place) (parts : List Part)
    → time_of_all (part_items change tone place parts) ≡ duration parts
parts-time change tone place [] = refl
parts-time change tone place (one ∷ parts) =
    let rest = parts-time change tone place parts in
    let first = sum_by-cons (λ (any : Part). any.length.0) one parts in
    let second = sum_by-cons (λ (any : Performed). time_of any.item) (part_item change tone place ((length parts == 0) && tone.tied) one) (part_items change tone place parts) in
    omega (arith, rest, first, second)

-- Parts and a last one with the rest take as long as the note.
rest-time : (long : ℕ) (parts : List Part) (key : ℕ) → duration parts ≤ long → duration (with_rest long parts key) ≡ long
rest-time long parts key within =
    let all = sum_by_push (λ (one : Part). one.length.0) parts (part key (long - duration parts)) in
    omega (arith, all, within)

-- Grace notes take no more than the half.
half_by : (wants : List Grains) (half : ℕ) (test : Bool) → test ≡ nat_le (wanted_time wants) half
    → taken_time (if test then Wanted else Equal (record { 0 = half / length wants })) wants ≤ half
half_by wants half true e = leb-true _ _ (sym e)
half_by wants half false e =
    let more : half < wanted_time wants = grind (arith, leb_tells) in
    (equal_shares wants half more).together

graces-half : (wants : List Grains) (half : ℕ) → taken_time (grace_share wants half) wants ≤ half
graces-half wants half = half_by wants half (nat_le (wanted_time wants) half) refl

-- The parts of each ornament take as long as the note.
mordent-time : (key : ℕ) (neighbour : Option ℕ) (long : ℕ) → IfSome (mordent_parts key neighbour long) (λ parts. duration parts ≡ long)
mordent-time key None long = tt
mordent-time key (Some neighbour) long =
    let s = short_part long in
    rest-time long (part key s ∷ part neighbour s ∷ []) key (let e : 0 + s + s ≤ long = omega arith in e)

turn-time : (first : Option ℕ) (key : ℕ) (other : Option ℕ) (long : ℕ) → IfSome (turn_parts first key other long) (λ parts. duration parts ≡ long)
turn-time (Some first) key (Some other) long =
    let q = long / 4 in
    rest-time long (part first q ∷ part key q ∷ part other q ∷ []) key (let e : 0 + q + q + q ≤ long = omega arith in e)
turn-time (Some first) key None long = tt
turn-time None key other long = tt

roll-time : (key : ℕ) (up down : Option ℕ) (long : ℕ) → IfSome (roll_parts key up down long) (λ parts. duration parts ≡ long)
roll-time key (Some up) (Some down) long =
    rest-time long (part key (twelfths long 4) ∷ part up (twelfths long 1) ∷ part key (twelfths long 3) ∷ part down (twelfths long 1) ∷ []) key
    (let e : 0 + twelfths long 4 + twelfths long 1 + twelfths long 3 + twelfths long 1 ≤ long = omega arith in e)
roll-time key (Some up) None long = tt
roll-time key None down long = tt

slide-by : (key long : ℕ) (test : Bool) → IfSome (if test then Some (slide_of (key - 1) key long) else None) (λ parts. duration parts ≡ long)
slide-by key long true =
    let s = short_part long in rest-time long (part (key - 1) s ∷ []) key (let e : 0 + s ≤ long = omega arith in e)
slide-by key long false = tt

trill-by : (key up long : ℕ) (test : Bool)
    → IfSome (if test then None else Some (with_rest long (alternations (pairs_in long) key up (long / (2 * pairs_in long + 1))) key)) (λ parts. duration parts ≡ long)
trill-by key up long true = tt
trill-by key up long false =
    rest-time long (alternations (pairs_in long) key up (long / (2 * pairs_in long + 1))) key (alternations_within (pairs_in long) key up long)

trill-time : (key : ℕ) (up : Option ℕ) (long : ℕ) → IfSome (trill_parts key up long) (λ parts. duration parts ≡ long)
unfolding trill_of
trill-time key None long = tt
trill-time key (Some up) long = trill-by key up long (pairs_in long == 0)

ornament-time : (ornament : Ornament) (up down : Option ℕ) (key long : ℕ) → IfSome (parts_by ornament up down key long) (λ parts. duration parts ≡ long)
ornament-time ornaments.Trill up down key long = trill-time key up long
ornament-time ornaments.LowerMordent up down key long = mordent-time key down long
ornament-time ornaments.UpperMordent up down key long = mordent-time key up long
ornament-time ornaments.Turn up down key long = turn-time up key down long
ornament-time ornaments.InvertedTurn up down key long = turn-time down key up long
ornament-time ornaments.Roll up down key long = roll-time key up down long
ornament-time ornaments.Slide up down key long = slide-by key long (nat_lt 0 key)

key-time : (mark : Option OrnamentMark) (change : ToneChange) (key : Option ℕ) (long : ℕ) → IfSome (parts_of_key mark change key long) (λ parts. duration parts ≡ long)
key-time None change key long = tt
key-time (Some mark) change None long = tt
key-time (Some mark) change (Some key) long =
    ornament-time mark.ornament (moved_ornament change mark).up (moved_ornament change mark).down key long

-- The steps of a spread chord take as many times one.
steps-time : (place : Place) (step : Grains) (tones : List Tone) (index : ℕ) (front : List Tone)
    → time_of_all (step_items place step tones index front) ≡ length front * step.0
steps-time place step tones index [] = omega arith
steps-time place step tones index (tone ∷ front) =
    let rest = steps-time place step tones (index + 1) front in
    let first = sum_by-cons (λ (any : Performed). time_of any.item) (step_item place step (take (index + 1) tones)) (step_items place step tones (index + 1) front) in
    omega (arith, rest, first)

parts-of : (found : Option (List Part)) (change : ToneChange) (tone : Tone) (place : Place) (long : ℕ)
    → IfSome found (λ parts. duration parts ≡ long) → IfSome found (λ parts. time_of_all (part_items change tone place parts) ≡ long)
parts-of None change tone place long whole = tt
parts-of (Some parts) change tone place long whole = parts-time change tone place parts ∙ whole

pub parts_take_time : PartsTakeTime
parts_take_time mark change tone place long =
    parts-of (parts_of_note mark change tone.key long) change tone place long (key-time mark change (changed_key change tone.key) long)

pub graces_take_half : GracesTakeHalf
graces_take_half graces held =
    let half = graces-half (wants_of graces) (held.0 / 2) in omega (arith, half)

pub graces_take_shares : GraceItemsTakeShares
graces_take_shares = graces-time

pub steps_take_time : StepsTakeTime
steps_take_time = steps-time
