-- The faults of a tune without a key and of its opening tempo, and its number, are those that the text of its header says.
use Rattle.std.proofs.Common.{◌≡◌, ◌≢◌, ℕ, Bool, true, false, cond, not, List, [], ◌∷◌, ◌++◌, Option, Some, None, Result, Ok, Err, refl, sym, ap, subst, ◌∙◌, arith, append_assoc}
use Rattle.std.specs.Prelude.{◌||◌, ◌==◌, filter, slice_range, unwrap_or}
use Rattle.std.specs.List.{list_any}
use Rattle.std.specs.Option.{option_to_list}
use Rattle.std.proofs.lemmas.Bool.{eqb-true, false≢true}
use Rattle.std.proofs.lemmas.Bool.Decides.{nat_tests}
use Rattle.std.proofs.lemmas.List.Folds.{list_any-append}
use Rattle.abc_bars.proofs.HeaderLaws.{header_at_following}
use Rattle.abc_bars.proofs.LookBack.Along.{from_view}
use Rattle.abc_bars.proofs.LookBack.Flags.{bodies_say_so}
use Rattle.abc_bars.specs.LookBack.Along.{CellTokens, results_along, items_along}
use Rattle.abc_bars.specs.LookBack.Cells.{after_tokens}
use Rattle.abc_bars.specs.LookBack.Defaults.{defaults_at}
use Rattle.abc_bars.specs.LookBack.Element.{Element}
use Rattle.abc_bars.specs.LookBack.Flags.{is_of_header}
use Rattle.abc_bars.specs.LookBack.Header.{header_at}
use Rattle.abc_bars.specs.LookBack.Place.{InBody, InHeader, following_field, after_header, after_header_line, result_in_body, result_in_header}
use Rattle.abc_bars_body.specs.SameEntry.{bar_steps}
use Rattle.abc_bars_body.specs.Step.{directive_in, field_in, header_step, line_in, line_of, entry_step}
use Rattle.abc_bars_body.specs.declared.entry.Entry.{Entry}
use Rattle.abc_bars_body.specs.declared.entry.Entry.TheVariants as entries
use Rattle.abc_fields.specs.Key.{empty_key, key_of, key_or_empty}
use Rattle.abc_fields.specs.Parts.{parts_of}
use Rattle.abc_fields.specs.Voice.{voice_of}
use Rattle.abc_fields.specs.declared.fault_code.FaultCode.{FaultCode}
use Rattle.abc_fields.specs.declared.fault_code.FaultCode.TheVariants as codes
use Rattle.abc_fields.specs.declared.key.Key.{Key}
use Rattle.abc_fields.specs.declared.meter.Meter.{Meter}
use Rattle.abc_fields.specs.declared.meter.Meter.TheVariants.{Free, Of}
use Rattle.abc_fields.specs.declared.shift.Shift.{Shift}
use Rattle.abc_fields.specs.declared.tempo.Tempo.{Tempo}
use Rattle.abc_fields.specs.declared.tempo.Tempo.TheVariants.{Unset, Units, Beat}
use Rattle.abc_fields.specs.declared.voice.Voice.{Voice}
use Rattle.abc_fold.specs.Steps.{items_from}
use Rattle.abc_bars_header.specs.Defaults.{unit_in}
use Rattle.abc_bars_header.specs.FieldKind.{kind_of}
use Rattle.abc_bars_header.specs.Header.{append_program, declare, declare_result, directive_item, header_result, header_key_by, header_line_result}
use Rattle.abc_bars_header.specs.Header.{header_voice_by, items_with, own_line_result, line_program, opening_header, opening_program, order_by, own_result}
use Rattle.abc_bars_header.specs.Header.{reference_by}
use Rattle.abc_bars_header.specs.HeaderLine.{HeaderLine, FieldLine, DirectiveLine}
use Rattle.abc_bars_header.specs.Opening.{opening_tempo, opening_tempo_by}
use Rattle.abc_bars_header.specs.Reference.{from_one, reference_of}
use Rattle.abc_bars_header.specs.declared.defaults.Defaults.{Defaults}
use Rattle.abc_bars_header.specs.declared.field_kind.FieldKind.{FieldKind}
use Rattle.abc_bars_header.specs.declared.field_kind.FieldKind.TheVariants as fields
use Rattle.abc_bars_header.specs.declared.header.Header.{Header}
use Rattle.abc_bars_items.specs.Item.{Items}
use Rattle.abc_bars_items.specs.declared.item.Item.{Item}
use Rattle.abc_bars_items.specs.declared.item.Item.TheVariants as items
use Rattle.abc_scan.specs.declared.directive.Directive.{Directive}
use Rattle.abc_scan.specs.declared.directive.Directive.TheVariants as directives
use Rattle.abc_scan.specs.declared.field.Field.{Field}
use Rattle.abc_bars_voice.specs.UnitLength.{unit_by}
use Rattle.abc_text.specs.Number.{number_of as number_spelled}
use Rattle.abc_text.proofs.Numbers.{number_of-spelled, number_of-spells, one_number}
use Rattle.abc_time.specs.declared.ratio.Ratio.{Ratio}
use Rattle.abc_tune.specs.Abc.{first_value, number_of, rules_of_abc}
use Rattle.abc_tune.specs.Built.{build_faults_of, has_uneven_voices, names_unknown_part}
use Rattle.abc_tune.specs.HeaderText.{IsReference, empty, written, refused, MissesKeyByText, NumberByText, TempoRangeByText, and_line, has_key}
use Rattle.abc_tune.specs.HeaderText.{has_key_from, header_lines, header_up_to, is_key, is_key_line, is_missing_key, is_out_of_range, is_tempo_range}
use Rattle.abc_tune.specs.HeaderText.{items_of_tune, sets_out_of_range, unit_of_meter}
use Rattle.abc_tune.specs.WholeFaults.{fault_if, faults_with, is_opening_key, lacks_key, opens_out_of_range, out_after}
use Rattle.abc_tune.proofs.WholeFaults.{last_passed, passed, past_append}
use Rattle.abc_tune_compiler.specs.Tune.{first_of}
use Rattle.abc_voices.specs.Layout.{is_too_long, items_in}
use Rattle.abc_voices.specs.Opening.{after_all}

-- the results of a tune's cells are those of looking back
abbrev to : Entry → CellTokens → Entry
to entry cell = (entry_step entry cell).0

abbrev giving : Entry → CellTokens → Items
giving entry cell = (entry_step entry cell).1

along : (entry : Entry) (cells : List CellTokens) → items_from bar_steps entry cells ≡ items_along to giving entry cells
along entry [] = refl
along entry (cell ∷ cells) = ap (λ (rest : List Items). giving entry cell ∷ rest) (along (to entry cell) cells)

looked_back_at : (opening : Defaults) (cells : List CellTokens) → items_of_tune opening cells ≡ results_along (InHeader opening []) cells
looked_back_at opening cells = along (entries.Opening opening) cells ∙ (from_view (InHeader opening [])).given cells

-- items of which none comes from a header
split_by : {A : Type 0} (b : Bool) (x : A) (xs : List A) → cond b (x ∷ xs) xs ≡ [] → (b ≡ false) × (xs ≡ [])
split_by true x xs is = absurd cc
split_by false x xs is = (refl, is)

no_key : (item : Item) → is_of_header item ≡ false → is_opening_key item ≡ false
no_key (items.Key opening key) is = is
no_key _ is = refl

key_quiet : (given : List Item) → filter is_of_header given ≡ [] → list_any is_opening_key given ≡ false
key_quiet [] none = refl
key_quiet (item ∷ given) none =
    let parts = split_by (is_of_header item) item (filter is_of_header given) none in
    ap (λ (b : Bool). b || list_any is_opening_key given) (no_key item parts.0) ∙ key_quiet given parts.1

no_tempo : (item : Item) (out : Bool) → is_of_header item ≡ false → out_after out item ≡ out
no_tempo (items.Tempo true micros bad) out is = absurd (false≢true (sym is))
no_tempo (items.Tempo false micros bad) out is = refl
no_tempo _ out is = refl

tempo_quiet : (given : List Item) (out : Bool) → filter is_of_header given ≡ [] → after_all out_after out given ≡ out
tempo_quiet [] out none = refl
tempo_quiet (item ∷ given) out none =
    let parts = split_by (is_of_header item) item (filter is_of_header given) none in
    ap (λ (b : Bool). after_all out_after b given) (no_tempo item out parts.0) ∙ tempo_quiet given out parts.1

-- so it is of the cells of a body
key_body : (opening : Defaults) (before : List HeaderLine) (key : Key) (elements : List Element) (cells : List CellTokens)
    → list_any is_opening_key (items_in (results_along (InBody opening before key elements) cells)) ≡ false
key_body opening before key elements [] = refl
key_body opening before key elements (cell ∷ cells) =
    let given = (result_in_body opening before key elements cell).items in
    let rest = items_in (results_along (InBody opening before key (after_tokens cell elements)) cells) in
    list_any-append is_opening_key given rest
    ∙ ap (λ (b : Bool). b || list_any is_opening_key rest) (key_quiet given (bodies_say_so opening before key elements cell))
    ∙ key_body opening before key (after_tokens cell elements) cells

tempo_body : (opening : Defaults) (before : List HeaderLine) (key : Key) (elements : List Element) (cells : List CellTokens) (out : Bool)
    → after_all out_after out (items_in (results_along (InBody opening before key elements) cells)) ≡ out
tempo_body opening before key elements [] out = refl
tempo_body opening before key elements (cell ∷ cells) out =
    let given = (result_in_body opening before key elements cell).items in
    let rest = items_in (results_along (InBody opening before key (after_tokens cell elements)) cells) in
    past_append out given rest
    ∙ ap (λ (b : Bool). after_all out_after b rest) (tempo_quiet given out (bodies_say_so opening before key elements cell))
    ∙ tempo_body opening before key (after_tokens cell elements) cells out

-- the key that a line of a header gives
abbrev key_if : Option Item → Bool
key_if item = list_any is_opening_key (option_to_list item)

or_nothing : (b : Bool) → (b || false) ≡ b
or_nothing true = refl
or_nothing false = refl

tempo_no_key : (unit : Ratio) (tempo : Option Tempo) → is_opening_key (opening_tempo_by unit tempo) ≡ false
tempo_no_key unit None = refl
tempo_no_key unit (Some tempo) = refl

key_items : (item : Option Item) (values : Defaults) → list_any is_opening_key (items_with item values) ≡ key_if item
key_items None values = ap (λ (b : Bool). b || false) (tempo_no_key (unit_in values) values.tempo)
key_items (Some item) values = ap (λ (b : Bool). is_opening_key item || (b || false)) (tempo_no_key (unit_in values) values.tempo)

key_program : (given : List Item) (program : Option ℕ) → list_any is_opening_key (append_program given program) ≡ list_any is_opening_key given
key_program given None = refl
key_program given (Some program) =
    list_any-append is_opening_key given (items.Program true (Some program) ∷ []) ∙ or_nothing (list_any is_opening_key given)

reference_no_key : (header : Header) (number : Result ℕ FaultCode) → key_if (reference_by header number).item ≡ false
reference_no_key header (Ok number) = refl
reference_no_key header (Err fault) = refl

order_no_key : (header : Header) (value : List ℕ) (order : Result (Unit {0}) FaultCode) → key_if (order_by header value order).item ≡ false
order_no_key header value (Ok reading) = refl
order_no_key header value (Err fault) = refl

declared_no_key : (header : Header) (name : List ℕ) (voices : List (List ℕ × Shift)) (fault : Option FaultCode)
    → key_if (declare_result header name (voices, fault)).item ≡ false
declared_no_key header name voices None = refl
declared_no_key header name voices (Some fault) = refl

voice_no_key : (header : Header) (value : List ℕ) (voice : Result Voice FaultCode) → key_if (header_voice_by header value voice).item ≡ false
voice_no_key header value (Ok voice) =
    let name = slice_range value voice.from voice.to in
    let made = declare header.voices name voice.shift in
    declared_no_key header name made.0 made.1
voice_no_key header value (Err fault) = refl

key_is_key : (header : Header) (key : Result Key FaultCode) → key_if (header_key_by header key).item ≡ true
key_is_key header (Ok key) = refl
key_is_key header (Err fault) = refl

own_key : (header : Header) (kind : FieldKind) (value : List ℕ) → key_if (own_result header kind value).item ≡ is_key kind
own_key header fields.Reference value = reference_no_key header (reference_of value)
own_key header fields.Parts value = order_no_key header value (parts_of value)
own_key header fields.Voice value = voice_no_key header value (voice_of value)
own_key header fields.Key value = key_is_key header (key_of value)
own_key header _ value = refl

directive_no_key : (directive : Directive) → key_if (directive_item directive) ≡ false
directive_no_key (directives.Program number) = refl
directive_no_key (directives.Reach reach) = refl

own_line_key : (header : Header) (line : HeaderLine) → key_if (own_line_result header line).item ≡ is_key_line line
own_line_key header (FieldLine field) = own_key header (kind_of field.letter) field.value
own_line_key header (DirectiveLine directive) = directive_no_key directive

line_key : (header : Header) (line : HeaderLine) → list_any is_opening_key (header_result header line).items ≡ is_key_line line
line_key header line =
    let own = own_line_result header line in
    key_program (items_with own.item own.header.defaults) (line_program line header.defaults)
    ∙ key_items own.item own.header.defaults
    ∙ own_line_key header line

-- the keys that a header gives
abbrev keys_from : Defaults → List HeaderLine → List CellTokens → Bool
keys_from opening before cells = list_any is_opening_key (items_in (results_along (InHeader opening before) cells))

key_field : (opening : Defaults) (before : List HeaderLine) (field : Field) (kind : FieldKind) (cells : List CellTokens)
    → ((more : List HeaderLine) → keys_from opening more cells ≡ has_key cells)
    → (is_key kind || list_any is_opening_key (items_in (results_along (following_field opening before field kind) cells))) ≡ (is_key kind || has_key cells)
key_field opening before field fields.Key cells rest = refl
key_field opening before field _ cells rest = rest (FieldLine field ∷ before)

key_following : (opening : Defaults) (before : List HeaderLine) (line : HeaderLine) (cells : List CellTokens)
    → ((more : List HeaderLine) → keys_from opening more cells ≡ has_key cells)
    → (is_key_line line || list_any is_opening_key (items_in (results_along (after_header_line opening before line) cells))) ≡ (is_key_line line || has_key cells)
key_following opening before (FieldLine field) cells rest = key_field opening before field (kind_of field.letter) cells rest
key_following opening before (DirectiveLine directive) cells rest = rest (DirectiveLine directive ∷ before)

key_at : (opening : Defaults) (before : List HeaderLine) (cell : CellTokens) (line : Option HeaderLine) (cells : List CellTokens)
    → ((more : List HeaderLine) → keys_from opening more cells ≡ has_key cells)
    → (list_any is_opening_key (result_in_header opening before cell line).items || list_any is_opening_key (items_in (results_along (after_header opening before cell line) cells)))
    ≡ has_key_from line (has_key cells)
key_at opening before cell None cells rest =
    ap (λ (b : Bool). b || list_any is_opening_key (items_in (results_along (InBody opening before empty_key (after_tokens cell [])) cells)))
    (key_quiet (result_in_body opening before empty_key [] cell).items (bodies_say_so opening before empty_key [] cell))
    ∙ key_body opening before empty_key (after_tokens cell []) cells
key_at opening before cell (Some line) cells rest =
    ap (λ (b : Bool). b || list_any is_opening_key (items_in (results_along (after_header_line opening before line) cells)))
    (line_key (header_at opening before) line)
    ∙ key_following opening before line cells rest

key_along : (opening : Defaults) (before : List HeaderLine) (cells : List CellTokens) → keys_from opening before cells ≡ has_key cells
key_along opening before [] = refl
key_along opening before (cell ∷ cells) =
    list_any-append is_opening_key (result_in_header opening before cell (line_in cell)).items
    (items_in (results_along (after_header opening before cell (line_in cell)) cells))
    ∙ key_at opening before cell (line_in cell) cells (λ more. key_along opening more cells)

-- a fault among those of a tune as a whole
found : (test : FaultCode → Bool) (there : Bool) (fault : FaultCode) (faults : List FaultCode) → test fault ≡ true → list_any test faults ≡ false
    → list_any test (fault_if there fault ++ faults) ≡ there
found test true fault faults is none = ap (λ (b : Bool). b || list_any test faults) is
found test false fault faults is none = none

missing_among : (tune : List Item) (unknown uneven long : Bool) → list_any is_missing_key (faults_with tune unknown uneven long) ≡ lacks_key tune
missing_among tune unknown uneven long =
    simp append_assoc (found is_missing_key (lacks_key tune) codes.MissingKey _ refl
    (passed is_missing_key (opens_out_of_range tune) codes.TempoRange _ refl
    ∙ passed is_missing_key unknown codes.UnknownPart _ refl
    ∙ passed is_missing_key uneven codes.UnevenVoices _ refl
    ∙ last_passed is_missing_key long codes.TuneTooLong refl))

range_among : (tune : List Item) (unknown uneven long : Bool) → list_any is_tempo_range (faults_with tune unknown uneven long) ≡ opens_out_of_range tune
range_among tune unknown uneven long =
    simp append_assoc (passed is_tempo_range (lacks_key tune) codes.MissingKey _ refl
    ∙ found is_tempo_range (opens_out_of_range tune) codes.TempoRange _ refl
    (passed is_tempo_range unknown codes.UnknownPart _ refl
    ∙ passed is_tempo_range uneven codes.UnevenVoices _ refl
    ∙ last_passed is_tempo_range long codes.TuneTooLong refl))

missing_built : (cells : List Items) → list_any is_missing_key (build_faults_of cells) ≡ lacks_key (items_in cells)
unfolding build_faults_of
missing_built cells = let tune = items_in cells in missing_among tune (names_unknown_part tune) (has_uneven_voices tune) (is_too_long tune)

range_built : (cells : List Items) → list_any is_tempo_range (build_faults_of cells) ≡ opens_out_of_range (items_in cells)
unfolding build_faults_of
range_built cells = let tune = items_in cells in range_among tune (names_unknown_part tune) (has_uneven_voices tune) (is_too_long tune)

pub misses_key_by_text : MissesKeyByText
misses_key_by_text opening cells =
    missing_built (items_of_tune opening cells)
    ∙ ap (λ (given : List Items). lacks_key (items_in given)) (looked_back_at opening cells)
    ∙ ap not (key_along opening [] cells)

-- the tempo that a line of a header gives
tempo_says : (out : Bool) (unit : Ratio) (tempo : Option Tempo) → out_after out (opening_tempo_by unit tempo) ≡ is_out_of_range unit tempo
tempo_says out unit None = refl
tempo_says out unit (Some Unset) = refl
tempo_says out unit (Some (Units n)) = refl
tempo_says out unit (Some (Beat beat n)) = refl

meter_unit : (meter : Option Meter) → unit_by (unwrap_or meter Free) ≡ unit_of_meter meter
meter_unit None = refl
meter_unit (Some Free) = refl
meter_unit (Some (Of num den)) = refl

opening_says : (out : Bool) (values : Defaults) → out_after out (opening_tempo values) ≡ sets_out_of_range values
opening_says out values =
    tempo_says out (unit_in values) values.tempo
    ∙ ap (λ (unit : Ratio). is_out_of_range (unwrap_or values.unit unit) values.tempo) (meter_unit values.meter)

items_say : (out : Bool) (item : Option Item) (values : Defaults) → after_all out_after out (items_with item values) ≡ sets_out_of_range values
items_say out None values = opening_says out values
items_say out (Some item) values = opening_says (out_after out item) values

program_says : (out : Bool) (given : List Item) (program : Option ℕ) → after_all out_after out (append_program given program) ≡ after_all out_after out given
program_says out given None = refl
program_says out given (Some program) = past_append out given (items.Program true (Some program) ∷ [])

line_sets : (opening : Defaults) (before : List HeaderLine) (line : HeaderLine) (out : Bool)
    → after_all out_after out (header_result (header_at opening before) line).items ≡ sets_out_of_range (defaults_at opening (line ∷ before))
line_sets opening before line out =
    let header = header_at opening before in
    let own = own_line_result header line in
    program_says out (items_with own.item own.header.defaults) (line_program line header.defaults)
    ∙ items_say out own.item own.header.defaults
    ∙ ap (λ (h : Header). sets_out_of_range h.defaults) (sym (header_at_following opening before line))

-- the tempo with which a tune begins
abbrev sets_at : Defaults → List HeaderLine → Bool
sets_at opening lines = sets_out_of_range (defaults_at opening lines)

abbrev out_from : Bool → Defaults → List HeaderLine → List CellTokens → Bool
out_from out opening before cells = after_all out_after out (items_in (results_along (InHeader opening before) cells))

out_field : (opening : Defaults) (before : List HeaderLine) (field : Field) (kind : FieldKind) (cells : List CellTokens)
    → ((more : List HeaderLine) → out_from (sets_at opening more) opening more cells ≡ sets_at opening (header_lines more cells))
    → after_all out_after (sets_at opening (FieldLine field ∷ before)) (items_in (results_along (following_field opening before field kind) cells))
    ≡ sets_at opening (cond (is_key kind) (FieldLine field ∷ before) (header_lines (FieldLine field ∷ before) cells))
out_field opening before field fields.Key cells rest =
    tempo_body opening (FieldLine field ∷ before) (key_or_empty (key_of field.value)) [] cells (sets_at opening (FieldLine field ∷ before))
out_field opening before field _ cells rest = rest (FieldLine field ∷ before)

out_after_items : (opening : Defaults) (before : List HeaderLine) (line : HeaderLine) (cells : List CellTokens)
    → ((more : List HeaderLine) → out_from (sets_at opening more) opening more cells ≡ sets_at opening (header_lines more cells))
    → after_all out_after (sets_at opening (line ∷ before)) (items_in (results_along (after_header_line opening before line) cells))
    ≡ sets_at opening (cond (is_key_line line) (line ∷ before) (header_lines (line ∷ before) cells))
out_after_items opening before (FieldLine field) cells rest = out_field opening before field (kind_of field.letter) cells rest
out_after_items opening before (DirectiveLine directive) cells rest = rest (DirectiveLine directive ∷ before)

out_line : (opening : Defaults) (before : List HeaderLine) (cell : CellTokens) (line : HeaderLine) (cells : List CellTokens) (out : Bool)
    → ((more : List HeaderLine) → out_from (sets_at opening more) opening more cells ≡ sets_at opening (header_lines more cells))
    → after_all out_after (after_all out_after out (result_in_header opening before cell (Some line)).items) (items_in (results_along (after_header opening before cell (Some line)) cells))
    ≡ sets_at opening (header_up_to (Some line) before (header_lines (line ∷ before) cells))
out_line opening before cell line cells out rest =
    ap (λ (b : Bool). after_all out_after b (items_in (results_along (after_header_line opening before line) cells))) (line_sets opening before line out)
    ∙ out_after_items opening before line cells rest

out_at : (opening : Defaults) (before : List HeaderLine) (cell : CellTokens) (line : Option HeaderLine) (cells : List CellTokens)
    → ((more : List HeaderLine) → out_from (sets_at opening more) opening more cells ≡ sets_at opening (header_lines more cells))
    → after_all out_after (after_all out_after (sets_at opening before) (result_in_header opening before cell line).items) (items_in (results_along (after_header opening before cell line) cells))
    ≡ sets_at opening (header_up_to line before (header_lines (and_line line before) cells))
out_at opening before cell None cells rest =
    ap (λ (b : Bool). after_all out_after b (items_in (results_along (InBody opening before empty_key (after_tokens cell [])) cells)))
    (tempo_quiet (result_in_body opening before empty_key [] cell).items (sets_at opening before) (bodies_say_so opening before empty_key [] cell))
    ∙ tempo_body opening before empty_key (after_tokens cell []) cells (sets_at opening before)
out_at opening before cell (Some line) cells rest = out_line opening before cell line cells (sets_at opening before) rest

out_along : (opening : Defaults) (before : List HeaderLine) (cells : List CellTokens)
    → out_from (sets_at opening before) opening before cells ≡ sets_at opening (header_lines before cells)
out_along opening before [] = refl
out_along opening before (cell ∷ cells) =
    past_append (sets_at opening before) (result_in_header opening before cell (line_in cell)).items
    (items_in (results_along (after_header opening before cell (line_in cell)) cells))
    ∙ out_at opening before cell (line_in cell) cells (λ more. out_along opening more cells)

out_first : (opening : Defaults) (first : CellTokens) (cells : List CellTokens) (line : HeaderLine) (is : Option HeaderLine) → is ≡ Some line
    → after_all out_after (after_all out_after false (result_in_header opening [] first is).items) (items_in (results_along (after_header opening [] first is) cells))
    ≡ sets_at opening (header_up_to is [] (header_lines (and_line is []) cells))
out_first opening first cells line (Some other) is = out_line opening [] first other cells false (λ more. out_along opening more cells)
out_first opening first cells line None is = absurd cc

pub tempo_range_by_text : TempoRangeByText
tempo_range_by_text opening line first cells is =
    range_built (items_of_tune opening (first ∷ cells))
    ∙ ap (λ (given : List Items). opens_out_of_range (items_in given)) (looked_back_at opening (first ∷ cells))
    ∙ past_append false (result_in_header opening [] first (line_in first)).items
    (items_in (results_along (after_header opening [] first (line_in first)) cells))
    ∙ out_first opening first cells line (line_in first) is

-- the number that an X: says
abbrev number_read : Result ℕ FaultCode → ℕ
number_read (Ok number) = number
number_read (Err fault) = 0

first_number : (number : ℕ) (values : Defaults) (program : Option ℕ)
    → first_value number_of (append_program (items_with (Some (items.Number number)) values) program) ≡ Some number
first_number number values None = refl
first_number number values (Some program) = refl

reference_number : (header : Header) (reading : Result ℕ FaultCode) (program : Option ℕ)
    → first_value number_of (header_line_result (reference_by header reading) program).items ≡ Some (number_read reading)
reference_number header (Ok number) program = first_number number header.defaults program
reference_number header (Err fault) program = first_number 0 header.defaults program

field_number : (opening : Defaults) (field : Field) (first : CellTokens) (found : Option Field) (directive : Option Directive)
    → found ≡ Some field → kind_of field.letter ≡ fields.Reference
    → first_value number_of (header_step (opening_header opening) first (line_of found directive)).1.items ≡ Some (number_read (reference_of field.value))
field_number opening field first found directive is reference =
    ap (λ (f : Option Field). first_value number_of (header_step (opening_header opening) first (line_of f directive)).1.items) is
    ∙ ap (λ (kind : FieldKind). first_value number_of (header_line_result (own_result (opening_header opening) kind field.value) (opening_program kind opening)).items)
    reference
    ∙ reference_number (opening_header opening) (reference_of field.value) opening.program

none_or_some : (n : ℕ) → None ≡ Some n → ⊥
none_or_some n is = cc

from_reading : (value : List ℕ) → value ≢ [] → (spelled : Option ℕ) → number_spelled value ≡ spelled → IsReference value (number_read (from_one spelled))
from_reading value some None is = refused some (λ n number least. none_or_some n (sym is ∙ number_of-spelled value n number)) refl
from_reading value some (Some number) is = by (number == 0) refl
  where
    by : (zero : Bool) → (number == 0) ≡ zero → IsReference value (number_read (cond zero (Err codes.BadReference) (Ok number)))
    by true none =
        refused some
        (λ n other least. let same = one_number value n number other (number_of-spells value number is) in let zero = eqb-true number 0 none in omega arith)
        refl
    by false some_number = written (number_of-spells value number is) (grind (arith, nat_tests))

is_reference : (value : List ℕ) → IsReference value (number_read (reference_of value))
is_reference [] = empty refl refl
is_reference (b ∷ bs) = from_reading (b ∷ bs) (λ is. cc) (number_spelled (b ∷ bs)) refl

pub number_by_text : NumberByText
unfolding entry_step
number_by_text opening field first cells is reference =
    subst (IsReference field.value)
    (sym (ap (λ (number : Option ℕ). unwrap_or number (first_of rules_of_abc.number 0 (items_from bar_steps (to (entries.Opening opening) first) cells)))
    (field_number opening field first (field_in first) (directive_in first) is reference)))
    (is_reference field.value)
