use Rattle.std.proofs.Common.{ℕ, ◌∷◌, [], ◌++◌, ◌≡◌, ◌↔◌, Some, ap, ◌∙◌, subst, sym}
use Rattle.std.specs.Prelude.{option_to_list}
use Rattle.std.specs.Result.{result_ok}
use Rattle.abc_time.specs.Length.{length_of}
use Rattle.abc_time.specs.Ratio.{IsRatio}
use Rattle.abc_bars_voice.specs.Tuplet.{tuplet_factors}
use Rattle.abc_bars_notes.proofs.Factors.{IsExactly, SameProducts, exact_along, same_length, same_products, all_ratios, for_some, known_exact, known_value, none_is, only_own, empty_is, whole_is}
use Rattle.abc_bars_notes.proofs.lengths.product_of.Goals as goal

pub length-requires-clause-factors : goal.length-requires-clause-factors
length-requires-clause-factors c =
    all_ratios c.args.own _ _ _ _ c.args.outer c.tuplet_ratio.result c.broken.inside.preceding c.broken.inside.ahead
    c.unwrap_or.ensures c.unwrap_or-2.ensures c.unwrap_or-3.ensures c.unwrap_or-4.ensures
    c.requires.own (for_some c.args.outer c.requires.outer) c.tuplet_ratio.ensures.range c.broken.invariant.0 c.broken.invariant.1

pub returns-clause-value : goal.returns-clause-value
returns-clause-value c =
    c.ok.ensures.value ∙ ap result_ok (c.length.ensures.value
    ∙ (λ i. length_of (c.get-part.ensures.value i) (c.args.own ∷ c.unwrap_or.result ∷ c.unwrap_or-2.result ∷ c.unwrap_or-3.result ∷ c.unwrap_or-4.result ∷ []))
    ∙ same_length c.args.unit _ _
    (same_products c.args.own _ _ _ _ c.args.outer c.tuplet_ratio.result c.broken.inside.preceding c.broken.inside.ahead
    c.unwrap_or.ensures c.unwrap_or-2.ensures c.unwrap_or-3.ensures c.unwrap_or-4.ensures)
    ∙ (λ i. length_of c.args.unit (c.args.own ∷ (option_to_list c.args.outer ++ (c.tuplet_ratio.ensures.value i ++ c.broken.view_is i)))))

pub returns-clause-exact : goal.returns-clause-exact
returns-clause-exact c =
    let same = same_products c.args.own _ _ _ _ c.args.outer c.tuplet_ratio.result c.broken.inside.preceding c.broken.inside.ahead
    c.unwrap_or.ensures c.unwrap_or-2.ensures c.unwrap_or-3.ensures c.unwrap_or-4.ensures in
    let list : c.args.own ∷ (option_to_list c.args.outer ++ (option_to_list c.tuplet_ratio.result ++ (option_to_list c.broken.inside.preceding ++ option_to_list c.broken.inside.ahead)))
    ≡ c.args.own ∷ (option_to_list c.args.outer ++ (tuplet_factors c.args.tuplet ++ c.args.broken.now)) =
    λ i. c.args.own ∷ (option_to_list c.args.outer ++ (c.tuplet_ratio.ensures.value i ++ c.broken.view_is i)) in
    exact_along c.args.unit c.get-part.result _ _ c.length.result c.ok.result c.get-part.ensures.value
    (subst (λ l. SameProducts (c.args.own ∷ c.unwrap_or.result ∷ c.unwrap_or-2.result ∷ c.unwrap_or-3.result ∷ c.unwrap_or-4.result ∷ []) l) list same)
    c.ok.ensures.value c.length.ensures.ok

-- only what is written multiplies the unit
only : (c : goal.After-units_of) → record { num = c.args.own.num; den = 1 } ∷ [] ≡ c.args.own ∷ (option_to_list c.args.outer ++ (tuplet_factors c.args.tuplet ++ c.args.broken.now))
only c =
    only_own c.args.own c.args.outer c.args.tuplet c.args.broken.now c.if-own-eq1.true
    (none_is c.args.outer c.if-is_none.ensures)
    (none_is c.args.tuplet c.if-is_none-2.ensures)
    (empty_is c.args.broken.now (sym c.is_empty.ensures ∙ c.if-is_empty.true))

pub returns-then-is_empty-clause-value : goal.returns-then-is_empty-clause-value
returns-then-is_empty-clause-value c =
    subst (λ l. Some c.units_of.result ≡ result_ok (length_of c.args.unit l)) (only c)
    (sym (ap result_ok (known_value c.args.unit (record { num = c.args.own.num; den = 1 } ∷ []) c.units_of.result
    (subst IsRatio c.get-part.ensures.value c.get-part.ensures.range) (whole_is c.args.own c.requires.own)
    (c.units_of.ensures.exact, c.units_of.ensures.range))))

pub returns-then-is_empty-clause-exact : goal.returns-then-is_empty-clause-exact
returns-then-is_empty-clause-exact c =
    subst (λ l. (g : ℕ) → (Some c.units_of.result ≡ Some (record { 0 = g })) ↔ IsExactly c.args.unit l g) (only c)
    (known_exact c.args.unit (record { num = c.args.own.num; den = 1 } ∷ []) c.units_of.result (subst IsRatio c.get-part.ensures.value c.get-part.ensures.range) (whole_is c.args.own c.requires.own)
    (c.units_of.ensures.exact, c.units_of.ensures.range))
