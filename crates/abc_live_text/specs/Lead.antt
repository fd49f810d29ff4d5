-- The first lines of a text, of which an edit changes some before any tune begins. Not in ABC 2.1.
use Rattle.std.specs.Prelude.{◌≡◌, ◌⊎◌, ℕ, ◌+◌, ◌≤◌, List, ◌∷◌, get_or, length, map, take, Option}
use Rattle.abc_book.specs.declared.block.Block.{Block}
use Rattle.abc_fold.specs.Chain.{ChainView}
use Rattle.abc_fold.specs.Steps.{Steps, IsAlike}
use Rattle.abc_lines.specs.Text.{Splice, Text, spliced}
use Rattle.abc_tune_compiler.specs.Book.{blocks_in, header_in}
use Rattle.abc_tune_compiler.specs.Rules.{Rules}
use Rattle.abc_live_text.specs.Blocks.{header_among}
use Rattle.abc_live_text.specs.Chains.{IsHeaderChain, IsHeaderChainOf, state_after_chain, header_place}
use Rattle.abc_live_text.specs.Origin.{rows_until}
use Rattle.abc_live_text.specs.NewParts.{AreNewParts, IsLead, NewPartsView, edited_rows, span_to}
use Rattle.abc_live_text.specs.Row.{CarriedRow, Row, carried_row, new_row}
use Rattle.abc_live_text.specs.KeptText.{KeptTextView}
use Rattle.abc_live_text.specs.declared.stretch.Span.{Span}

-- The first lines of a text, with the chains that hold their cells.
abbrev pub old_lead_rows : {C State Cell Items : Type 0} → KeptTextView C State Cell Items → Span → List (CarriedRow Cell)
old_lead_rows on lead =
    rows_until (map carried_row on.rows.items) 0 lead.lines.to 0 (header_place on.header ∷ take lead.tunes.to on.tunes)

-- The same after an edit of them.
abbrev pub lead_rows : {C State Cell Items : Type 0} → KeptTextView C State Cell Items → Span → ℕ → ℕ → List (Row Cell)
    → List (CarriedRow Cell)
lead_rows on lead at removed new = edited_rows at removed new (old_lead_rows on lead)

-- All lines of a text.
abbrev pub whole_lead : {C State Cell Items : Type 0} → KeptTextView C State Cell Items → Span
whole_lead on = span_to (length on.tunes) (length on.lines.text)

-- The file header of a text that begins with these rows, its chain, and the state in which tunes begin after it.
pub record IsHeaderOpening {State Cell Items Defaults : Type 0} (steps : Steps State Cell Items)
    (rules : Rules State Cell Items Defaults) (rows : List (CarriedRow Cell)) (header : Option Block)
    (first : ChainView State Cell Items) (opening : State) : Type 0 where
  pub header_is : header ≡ header_among rows
  pub chain : IsHeaderChain steps rules.header rows first header
  pub begins : opening ≡ rules.tune (state_after_chain header first)

-- The same of a text, by its lines.
pub record IsHeaderOpeningOf {State Cell Items Defaults : Type 0} (steps : Steps State Cell Items)
    (rules : Rules State Cell Items Defaults) (text : Text) (header : Option Block) (first : ChainView State Cell Items)
    (opening : State) : Type 0 where
  pub header_is : header ≡ header_in (blocks_in rules text)
  pub chain : IsHeaderChainOf steps rules text first (header_in (blocks_in rules text))
  pub begins : opening ≡ rules.tune (state_after_chain (header_in (blocks_in rules text)) first)

-- The state in which tunes begin, by the chain that is kept of the file header.
pub record IsKeptOpening {C State Cell Items Defaults : Type 0} (rules : Rules State Cell Items Defaults)
    (on : KeptTextView C State Cell Items) (opening : State) : Type 0 where
  pub first : ChainView State Cell Items
  pub there : first ≡ get_or on.chains.items 0 first
  pub begins : opening ≡ rules.tune (state_after_chain on.header first)

-- It is equivalent to another one.
pub record BeginAlike {C State Cell Items Defaults : Type 0} (steps : Steps State Cell Items)
    (rules : Rules State Cell Items Defaults) (on : KeptTextView C State Cell Items) (opening : State) : Type 0 where
  pub was : State
  pub begins : IsKeptOpening rules on was
  pub alike : IsAlike steps was opening

-- There are no tunes from `following` on, or tunes begin as before.
abbrev pub MayGoOn : {C State Cell Items Defaults : Type 0} → Steps State Cell Items → Rules State Cell Items Defaults
    → KeptTextView C State Cell Items → ℕ → State → Type 0
MayGoOn steps rules on following opening = (length on.tunes ≤ following) ⊎ BeginAlike steps rules on opening

-- An edit of the first lines of a text, and the rows of these lines after it.
pub record IsLeadEdit {C State Cell Items Defaults : Type 0} (rules : Rules State Cell Items Defaults)
    (on : KeptTextView C State Cell Items) (s : Splice) (lead : Span) (rows : List (CarriedRow Cell)) : Type 0 where
  pub inside : s.at + s.removed ≤ length on.lines.text
  pub is_lead : IsLead on.tunes (length on.lines.text) (s.at + s.removed) lead
  pub rows_are : rows ≡ lead_rows on lead s.at s.removed (map (new_row rules) s.lines)

-- The new parts of an edit of the first lines are those of the text after it, if its file header has the opening `opening`
-- and the old tunes may go on from that. `Made` lifts a property of parts to a result that has them.
abbrev pub RefoldsLead : {C State Cell Items Defaults : Type 0} → Steps State Cell Items → Rules State Cell Items Defaults
    → KeptTextView C State Cell Items → Span → List (CarriedRow Cell) → Option Block → ChainView State Cell Items → State
    → ((NewPartsView State Cell Items → Type 0) → Type 0) → Type 0
RefoldsLead steps rules on lead rows header first opening Made = (s : Splice) → IsLeadEdit rules on s lead rows
    → IsHeaderOpeningOf steps rules (spliced on.lines.text s) header first opening → MayGoOn steps rules on lead.tunes.to opening
    → Made (AreNewParts steps rules on s)
