-- A property of the items of a tune, by the items of each cell.
use Rattle.std.proofs.Common.{◌≡◌, ℕ, ◌+◌, ◌<◌, ◌≤◌, Bool, true, false, not, List, [], ◌∷◌, ◌++◌, length, drop, get_or, refl, sym, ap, ◌∙◌, arith, append_assoc}
use Rattle.std.proofs.lemmas.List.{drop_more}
use Rattle.std.proofs.lemmas.List.Folds.{list_any-append}
use Rattle.std.specs.Prelude.{◌||◌}
use Rattle.std.specs.List.{list_any}
use Rattle.abc_bars_items.specs.declared.item.Item.{Item}
use Rattle.abc_bars_items.specs.Item.{Items}
use Rattle.abc_fields.specs.declared.fault_code.FaultCode.{FaultCode}
use Rattle.abc_fields.specs.declared.fault_code.FaultCode.TheVariants as codes
use Rattle.abc_fields.specs.Fault.{number_of}
use Rattle.abc_tune.specs.WholeFaults.{is_opening_key, lacks_key, out_after, opens_out_of_range, fault_if, faults_with, AreRisingFrom, is_too_long_fault}
use Rattle.abc_voices.specs.Layout.{items_in}
use Rattle.abc_voices.specs.Opening.{after_all}

-- one of a tune is one of a cell
any_in_cells : (test : Item → Bool) (cells : List Items) → list_any test (items_in cells) ≡ list_any (λ cell. list_any test cell.items) cells
any_in_cells test [] = refl
any_in_cells test (cell ∷ cells) =
    list_any-append test cell.items (items_in cells) ∙ ap (λ b. list_any test cell.items || b) (any_in_cells test cells)

pub lacks_key_in_cells : (cells : List Items) → lacks_key (items_in cells) ≡ not (list_any (λ cell. list_any is_opening_key cell.items) cells)
lacks_key_in_cells cells = ap not (any_in_cells is_opening_key cells)

-- the state after items and more of them
pub past_append : (out : Bool) (items more : List Item) → after_all out_after out (items ++ more) ≡ after_all out_after (after_all out_after out items) more
past_append out [] more = refl
past_append out (item ∷ items) more = past_append (out_after out item) items more

-- one more cell
pub out_more : (cells : List Items) (i : ℕ) (out following : Bool) (cell : Items) (held : List Item) (whole : Bool) → i < length cells → cell ≡ get_or cells i cell
    → held ≡ cell.items → following ≡ after_all out_after out held
    → after_all out_after out (items_in (drop i cells)) ≡ whole → after_all out_after following (items_in (drop (i + 1) cells)) ≡ whole
out_more cells i out following cell held whole within is same after before =
    let rest = items_in (drop (i + 1) cells) in
    let front : drop i cells ≡ cell ∷ drop (i + 1) cells = drop_more cells i cell within ∙ ap (λ x. x ∷ drop (i + 1) cells) (sym is) in
    ap (λ b. after_all out_after b rest) (after ∙ ap (after_all out_after out) same)
    ∙ sym (past_append out cell.items rest)
    ∙ sym (ap (λ those. after_all out_after out (items_in those)) front)
    ∙ before

-- what rises from a number rises from a lower one
rising_from : (low high : ℕ) (faults : List FaultCode) → low ≤ high → AreRisingFrom high faults → AreRisingFrom low faults
rising_from low high [] below rises = tt
rising_from low high (fault ∷ faults) below rises = (let h : high < number_of fault = rises.0 in omega (arith, h), rises.1)

-- a fault before those that rise from its number
rising_if : (low : ℕ) (there : Bool) (fault : FaultCode) (faults : List FaultCode) → low < number_of fault → AreRisingFrom (number_of fault) faults → AreRisingFrom low (fault_if there fault ++ faults)
rising_if low true fault faults below rises = (below, rises)
rising_if low false fault faults below rises = rising_from low (number_of fault) faults (omega arith) rises

-- the last of them
rising_last : (long : Bool) → AreRisingFrom 25 (fault_if long codes.TuneTooLong)
rising_last true = (omega arith, tt)
rising_last false = tt

-- the faults of a tune rise
pub faults_rise : (tune : List Item) (unknown uneven long : Bool) → AreRisingFrom 0 (faults_with tune unknown uneven long)
faults_rise tune unknown uneven long =
    simp append_assoc (rising_if 0 (lacks_key tune) codes.MissingKey _ (omega arith)
    (rising_if 22 (opens_out_of_range tune) codes.TempoRange _ (omega arith)
    (rising_if 23 unknown codes.UnknownPart _ (omega arith)
    (rising_if 24 uneven codes.UnevenVoices _ (omega arith)
    (rising_last long)))))

-- another fault is passed over
pub passed : (test : FaultCode → Bool) (there : Bool) (fault : FaultCode) (faults : List FaultCode) → test fault ≡ false
    → list_any test (fault_if there fault ++ faults) ≡ list_any test faults
passed test true fault faults other = ap (λ (b : Bool). b || list_any test faults) other
passed test false fault faults other = refl

pub last_passed : (test : FaultCode → Bool) (there : Bool) (fault : FaultCode) → test fault ≡ false → list_any test (fault_if there fault) ≡ false
last_passed test true fault other = ap (λ (b : Bool). b || false) other
last_passed test false fault other = refl

long_alone : (long : Bool) → list_any is_too_long_fault (fault_if long codes.TuneTooLong) ≡ long
long_alone true = refl
long_alone false = refl

-- the fault of a tune that is too long is there exactly if it is
pub long_among : (tune : List Item) (unknown uneven long : Bool) → list_any is_too_long_fault (faults_with tune unknown uneven long) ≡ long
long_among tune unknown uneven long =
    simp append_assoc (passed is_too_long_fault (lacks_key tune) codes.MissingKey _ refl
    ∙ passed is_too_long_fault (opens_out_of_range tune) codes.TempoRange _ refl
    ∙ passed is_too_long_fault unknown codes.UnknownPart _ refl
    ∙ passed is_too_long_fault uneven codes.UnevenVoices _ refl
    ∙ long_alone long)

-- the lemmas that the code of `faults_with` cites
pub ruleset fault_lemmas = (append_assoc, faults_rise, long_among)
