use Rattle.std.proofs.Common.{◌≡◌, ap, sym, ◌∙◌, map}
use Rattle.std.proofs.lemmas.Result.{IfOk-weaker}
use Rattle.abc_voices_sections.specs.Items.{items_of}
use Rattle.abc_voices_sections.specs.Section.{cut, letters, sections}
use Rattle.abc_voices_sections.specs.Stage.{content, steps_at}
use Rattle.abc_voices_sections.proofs.AsItems.{are_sections, none_begins}
use Rattle.abc_voices.proofs.OfFields.{letters_of_fields, opening_voice_of_fields}
use Rattle.abc_voices.proofs.layout.sections_of.Goals as goal

pub only_section-requires : goal.only_section-requires
only_section-requires c =
    none_begins c.args.tune.now (sym (letters_of_fields (items_of c.args.tune.now)) ∙ ap letters (sym c.requires) ∙ c.has_one_section.ensures c.if-has_one_section.true)

pub returns-then-has_one_section : goal.returns-then-has_one_section
returns-then-has_one_section c =
    let opens = c.opening_voice-first.ensures ∙ opening_voice_of_fields (items_of c.args.tune.now) (items_of c.args.fields.now) c.requires in
    IfOk-weaker c.only_section.result
    (λ found. map steps_at found.items ≡ cut (λ step. step.now) c.opening_voice-first.result.now c.args.tune.now)
    (λ found. map content found.items ≡ sections (items_of c.args.tune.now))
    (λ found cuts. are_sections found.items c.opening_voice-first.result.now c.args.tune.now cuts opens) c.only_section.ensures

pub returns : goal.returns
returns c =
    let opens = c.opening_voice-first.ensures ∙ opening_voice_of_fields (items_of c.args.tune.now) (items_of c.args.fields.now) c.requires in
    IfOk-weaker c.sections.result
    (λ found. map steps_at found.items ≡ cut (λ step. step.now) c.opening_voice-first.result.now c.args.tune.now)
    (λ found. map content found.items ≡ sections (items_of c.args.tune.now))
    (λ found cuts. are_sections found.items c.opening_voice-first.result.now c.args.tune.now cuts opens) c.sections.ensures
