-- A note or rest, put together.
use Rattle.std.proofs.Common.{◌≡◌, ℕ, ◌*◌, ◌-◌, false, List, [], ◌∷◌, ◌++◌, map, append_assoc, Result, Ok, Err}
use Rattle.std.specs.Prelude.{OnOk}
use Rattle.std.specs.declared.alloc.AllocError.{AllocError}
use Rattle.abc_time.specs.declared.grains.Grains.{Grains}
use Rattle.abc_bars_items.specs.declared.item.Item.TheVariants as items
use Rattle.abc_bars_items.specs.declared.item.Tone.{Tone}
use Rattle.abc_marks.specs.declared.mark.Mark.{Mark}
use Rattle.abc_perform_item.specs.declared.grace_items.GraceTime.{GraceTime}
use Rattle.abc_perform_item.specs.declared.graces.Grace.{Grace}
use Rattle.abc_perform_item.specs.declared.performed.Performed.{Performed}
use Rattle.abc_perform_item.specs.declared.performed.Source.TheVariants as sources
use Rattle.abc_perform_item.specs.declared.setting.ItemSetting.{ItemSetting}
use Rattle.abc_perform_item.specs.Decorations.{added_by, divisor_of}
use Rattle.abc_perform_item.specs.Fermata.{fermata_factor}
use Rattle.abc_perform_item.specs.GraceItems.{grace_item, grace_time}
use Rattle.abc_perform_item.specs.ItemParts.{graces_before, rest_items, tone_items, sound_items}

-- A fact of a result that follows from another one.
pub on_ok : {P Q : Type 0} (result : Result (Unit {0}) AllocError) → (P → Q) → OnOk result P → OnOk result Q
on_ok (Ok done) follows fact = follows fact
on_ok (Err error) follows fact = fact

-- A rest after its grace notes.
pub rest_whole : (setting : ItemSetting) (marks : List Mark) (length : Grains) (factor : ℕ) (graces same_graces : List Grace) (time : GraceTime)
    (before between after : List Performed)
    → factor ≡ fermata_factor setting.holds marks length []
    → graces ≡ graces_before setting marks
    → same_graces ≡ graces_before setting marks
    → time ≡ grace_time graces (record { 0 = factor * length.0 })
    → between ≡ before ++ map (grace_item setting.transpose time.share) same_graces
    → after ≡ between ++ record { item = items.Rest (record { 0 = factor * length.0 - time.taken.0 }) false; source = sources.Item setting.item } ∷ []
    → after ≡ before ++ rest_items setting marks length
rest_whole setting marks length factor graces same_graces time before between after e1 e2 e2' e3 e4 e5 =
    rw (e5, e4, e3, e2', e2, e1, append_assoc)

-- A note or chord after its grace notes.
pub tones_whole : (setting : ItemSetting) (marks : List Mark) (tones : List Tone) (length : Grains) (factor added divisor : ℕ) (graces same_graces : List Grace) (time : GraceTime)
    (before between after : List Performed)
    → factor ≡ fermata_factor setting.holds marks length tones
    → graces ≡ graces_before setting marks
    → same_graces ≡ graces_before setting marks
    → time ≡ grace_time graces (record { 0 = factor * length.0 })
    → between ≡ before ++ map (grace_item setting.transpose time.share) same_graces
    → added ≡ added_by marks
    → divisor ≡ divisor_of marks
    → after ≡ between ++ sound_items setting.item marks
    (record { transpose = setting.transpose; factor = factor; taken = time.taken; added = added; divisor = divisor })
    tones (record { 0 = factor * length.0 - time.taken.0 })
    → after ≡ before ++ tone_items setting marks tones length
tones_whole setting marks tones length factor added divisor graces same_graces time before between after e1 e2 e2' e3 e4 e5 e6 e7 =
    rw (e7, e6, e5, e4, e3, e2', e2, e1, append_assoc)
