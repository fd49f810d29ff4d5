-- The steps of a voice by its name are those by whether it is the current one.
use Rattle.std.proofs.Common.{◌≡◌, ℕ, Bool, true, false, List, [], ◌∷◌, refl, ap, ◌∙◌}
use Rattle.std.specs.Prelude.{◌&&◌, if◌then◌else◌, bytes_eq}
use Rattle.abc_bars_items.specs.declared.item.Item.{Item}
use Rattle.abc_bars_items.specs.declared.item.Item.TheVariants as items
use Rattle.abc_voices_sections.specs.OwnItems.{is_own_after, own_from}
use Rattle.abc_voices_sections.specs.Section.{is_step, own_steps, voice_after}

own_is : (voice current : List ℕ) (item : Item) → is_own_after voice (bytes_eq current voice) item ≡ bytes_eq (voice_after current item) voice
own_is voice current (items.Voice false name) = refl
own_is voice current _ = refl

both : (a b : Bool) → (a && b) ≡ (b && a)
both true true = refl
both true false = refl
both false true = refl
both false false = refl

pub own_from_part : {A : Type 0} (item_of : A → Item) (voice current : List ℕ) (steps : List A)
    → own_from item_of voice (bytes_eq current voice) steps ≡ own_steps item_of voice current steps
own_from_part item_of voice current [] = refl
own_from_part item_of voice current (step ∷ steps) =
    let item = item_of step in
    let rest = own_from item_of voice (is_own_after voice (bytes_eq current voice) item) steps in
    let same : rest ≡ own_steps item_of voice (voice_after current item) steps =
    ap (λ own. own_from item_of voice own steps) (own_is voice current item) ∙ own_from_part item_of voice (voice_after current item) steps in
    ap (λ b. if b then step ∷ rest else rest) (both (bytes_eq current voice) (is_step item))
    ∙ ap (λ l. if is_step item && bytes_eq current voice then step ∷ l else l) same
