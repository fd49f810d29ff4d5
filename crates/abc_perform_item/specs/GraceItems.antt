-- Grace notes as items, and the time that they take. ABC 2.1 section 4.12.
use Rattle.std.specs.Prelude.{ℤ, ◌≤◌, ◌/◌, false, List, [], ◌∷◌, map}
use Rattle.abc_time.specs.declared.grains.Grains.{Grains}
use Rattle.abc_bars_items.specs.Item.{IsWithinLongest}
use Rattle.abc_bars_items.specs.declared.item.Item.TheVariants as items
use Rattle.abc_perform_note.specs.declared.grace.GraceShare.{GraceShare}
use Rattle.abc_perform_note.specs.declared.grace.GraceShare.TheVariants.{Wanted, Equal}
use Rattle.abc_perform_note.specs.Grace.{grace_share, taken, taken_time}
use Rattle.abc_perform_item.specs.declared.graces.Grace.{Grace}
use Rattle.abc_perform_item.specs.declared.grace_items.GraceTime.{GraceTime}
use Rattle.abc_perform_item.specs.declared.performed.Performed.{Performed}
use Rattle.abc_perform_item.specs.ToneChange.{moved_key}

-- What each grace note wants.
abbrev pub wants_of : List Grace → List Grains
wants_of graces = map (λ grace. grace.note.wanted) graces

-- What each grace note takes of a note of this length.
abbrev pub share_of : List Grace → Grains → GraceShare
share_of graces length = grace_share (wants_of graces) (length.0 / 2)

-- What grace notes take of a note of this length: what they want, but no more than half of it. Not in ABC 2.1.
abbrev pub grace_time : List Grace → Grains → GraceTime
grace_time graces length = record {
  share = share_of graces length;
  taken = record { 0 = taken_time (share_of graces length) (wants_of graces) };
}

-- An equal share is no longer than the note.
abbrev pub IsShareWithin : Grains → GraceShare → Type 0
IsShareWithin length Wanted = Unit {0}
IsShareWithin length (Equal share) = share.0 ≤ length.0

-- An equal share is a length that an item may have.
abbrev pub IsShareOfANote : GraceShare → Type 0
IsShareOfANote Wanted = Unit {0}
IsShareOfANote (Equal share) = IsWithinLongest share

-- A grace note as an item: it is not tied, and has the velocity that holds at the note after it.
abbrev pub grace_item : ℤ → GraceShare → Grace → Performed
grace_item transpose share grace = record {
  item = items.Tone
      (record {
        length = taken share grace.note.wanted;
        key = moved_key transpose grace.note.key;
        velocity = grace.velocity;
        tied = false;
      } ∷ [])
      (taken share grace.note.wanted);
  source = grace.source;
}
