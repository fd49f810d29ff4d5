-- `deallocate` gives a block of empty places back. A walk of its code by hand; a context is shown as [first; second; ..].
use Rattle.std.proofs.Common.{◌≡◌, ℕ, ◌*◌, ◌^◌, ◌<◌, List, [], ◌∷◌, refl, sym, ap, ◌∙◌, subst, arith, w64, length, replicate, Option, None}
use Rattle.std.proofs.lemmas.List.{length-replicate}
use Rattle.std.proofs.raw_atomic.Walks.{proved}
use Rattle.std.proofs.VecSteps.Shapes.{after}
use Rattle.std.specs.Mem.{type_size}
use Rattle.core.proofs.alloc.Calls.{Al, Gives, at_gives, Gives-goes, Gives-Gives, Goes-blank}
use Rattle.core.proofs.mem.Param.{El}
use Rattle.core.proofs.slots.Leases.{uncapped, block_ty, block_size, block_align}
use Rattle.core.specs.declared.alloc.Allocator.{Ghosts}
use Rattle.std_alloc.proofs.RawLayout.{as_raw}
use base.Logic.{id⊢}
use base.Fml.{ftrue, froom, flft, Incl-trans}
use contract.BorrowLft.{◌⊑◌}
use contract.Monad.{fact}
use contract.Running.{tables}
use lib.Dec.{T}
use mir.MapTy.{inst_fn}
use mir.Syntax.{Dict, a_type, named, ty_array, ty_unit, dcons, dnil}
use mir.Val.{Val, vint, vptr, vunit, vstruct, vnil, has_ty, WT}
use prog.Capped.{capped_fits}
use prog.Memory.{align, capped}
use prog.Wp.{WpFn}
use types.Kit.{‵, raw, prop, given, ◌⊛◌, later, await, learn, at_ret, ◌$◌, ◌∵◌, !, qed, done, move, keep, drop, use1, split, join, fsplit, feq_i, flt_l, rewrite, regoal, suffices, group}
use types.Part.{whole, sub}
use types.Run.{enter, of_opd, unit_lit, bin, size_word, align_word, and_then, no_more, stop, fld, first, blocks, exec, returns}
use types.ByLocal.{alloc_all, pass_all, free_all, look_at, get, get_in, is, lands_last, sets, env}
use denote.Builtin.{usize, RefOf}
use denote.Exit.{yes, no}
use denote.Param.{param, layout, bounded}
use denote.Param.Laws.{param_laws}
use denote.Plain.{uint_vals, uint_Tells}
use denote.RattleType.{RattleType, owns}
use denote.RawPtr.{Ptr, block_ptr, ptr_val, in_a_block}
use denote.Ref.{ShrRef, shr_vals, shr_Tells}
use denote.Signature.{plain}
use denote.Steps.{nothing, heard}
use denote.Triple.Call.{calls_at_last}
use denote.Triple.Table.{framed}
use denote.Triple.Walked.{Stays, walk_of, stay_dropped, Goes-dropped, ends_at}
use Rattle.abc_lines.specs.Places.{row_at, row_owned, claim_owned}
use Rattle.abc_lines.specs.contracts.places.Places as P-type
use Rattle.abc_lines.specs.contracts.places.Claim as C-type
use Rattle.abc_lines.specs.contracts.places.deallocate as f
use Rattle.abc_lines.specs.contracts.places.deallocate.Key as key
use Rattle.abc_lines.proofs.PlacesSteps.{spent, one}
use Rattle.abc_lines.proofs.places.Places.TheLaws as places_laws
use Rattle.abc_lines.proofs.places.Claim.TheLaws as claim_laws
use Rattle.abc_lines.proofs.places.deallocate.Statement.{statement}
use Rattle.abc_lines.proofs.places.deallocate.Code as code

module _ (X A : RattleType) (g : Ghosts A.Denot) (d dd : Dict) where
  abbrev Row : RattleType
  Row = P-type.the_row (param 0 X)

  abbrev Right : RattleType
  Right = C-type.the_row (param 0 X) (param 1 A) g

  abbrev stayed : Stays (f.ended X A g d dd).signature.params (f.ended X A g d dd).kept
  stayed = (
    stay_dropped (RefOf (0 ∷ []) tt (plain (λ _. param 1 A)) (λ _. tt)) yes,
    (stay_dropped (plain (λ _. Row)) no, (stay_dropped (plain (λ _. usize)) yes, (stay_dropped (plain (λ _. Right)) no, tt))),
  )

pub deallocate_spec : {M : Type 1} → statement M
deallocate_spec 𝓤 𝓛 𝓜 𝓡 wired X A LX LA g d dd met md =
    let E : El = record { row = X; laws = LX } in let Z : Al = record { row = A; laws = LA; g = g; d = d; drops = dd } in
    let R : RattleType = param 0 X in let s : ℕ = type_size R in let tau = layout X in let al : ℕ = capped (align tau) in
    let 𝓟 : RattleType = Row X A g d dd in let 𝓒 : RattleType = Right X A g d dd in
    let row_is = places_laws.lowers R (param_laws 0 X LX) in let right_is = claim_laws.lowers R (param 1 A) g (param_laws 0 X LX) (param_laws 1 A LA) in
    let called = bounded (a_type ∷ a_type ∷ []) (X, (A, tt)) (dcons d (dcons dd dnil)) in let F = inst_fn called code.function in
    let T' = f.ended X A g d dd in let stay = stayed X A g d dd in
    let c = f.clauses X A g d dd 𝓛 𝓜.mem 𝓡.returns in let W = walk_of 𝓛 T' stay c in let 𝓣 = tables 𝓤 𝓛.H 𝓜 𝓡 𝓡.env in
    proved 𝓛 T' stay c 𝓜 𝓡 (
      Goes-dropped 𝓛 3 (RefOf (0 ∷ []) tt (plain (λ _. param 1 A)) (λ _. tt)) yes (λ κs x w. refl),
      (
        Goes-blank 𝓛 3 (plain (λ _. 𝓟)) no (λ κs x w. tt),
        (Goes-dropped 𝓛 3 (plain (λ _. usize)) yes (λ κs x w. refl), (Goes-blank 𝓛 3 (plain (λ _. 𝓒)) no (λ κs x w. tt), tt)),
      ),
    )
    (key.name called) F (code.unfolded 𝓤 𝓛.H 𝓜 𝓡 wired (X, (A, tt)) d dd)
    (λ κs. (shr_vals, ((λ p. row_is.lowered p ∷ []), (uint_vals w64, ((λ r. right_is.lowered r ∷ []), tt)))))
    (λ κs. (shr_Tells (named 0) κs.0 (param 1 A), (row_is.val_is, (uint_Tells w64, (right_is.val_is, tt))))) (λ κs qs bounds a u are.
    let κ = κs.0 in let q = qs.0 in let from = a.0.now in let at = a.0.ref_ptr in let places = a.1.0 in let n = a.1.1.0 in let claim = a.1.1.1.0 in
    let vss : List Val × (List Val × (List Val × (List Val × Unit {0}))) = (shr_vals a.0, (row_is.lowered places ∷ [], (uint_vals w64 n, (right_is.lowered claim ∷ [], tt)))) in
    let y : W.Ghost = ((κs, qs, bounds, a, vss), u) in
    qed 𝓛 (((‵ (flft κ q) ⊛ (‵ (flft κs.1.0 qs.1.0) ⊛ (‵ (flft κs.1.1.0 qs.1.1.0) ⊛ ‵ ftrue))) ⊛ ‵ (owns (ShrRef (named 0) κ (param 1 A) ∷ 𝓟 ∷ usize ∷ 𝓒 ∷ []) a vss))
    ∷ (raw (fact 𝓤 (κs.1.0 ⊑ X.lives)) ⊛ (raw (fact 𝓤 (κs.1.1.0 ⊑ A.lives))
    ⊛ raw (fact 𝓤 ((places.row ≡ replicate n None) × (claim.start ≡ places.start) × (claim.count ≡ n) × (claim.from ≡ from))))) ∷ []) ∵
    move ! (1 ∷ []) $ split ! $ drop ! $ split ! $ heard ! _ (λ lives. heard ! _ (λ asked.
    split ! $ move ! (1 ∷ []) $ fsplit ! $ move ! (1 ∷ []) $ fsplit ! $ fsplit ! $ drop ! $
    in_a_block ! places.start (λ p. row_owned R p places.row) (id⊢ 𝓤 _) (λ b o e. fsplit ! $ move ! (1 ∷ []) $ flt_l ! (λ short.
    -- [the places; the number and the claim; the `&`; the tokens]
    let fits : n * s < 2 ^ 63 = subst (λ k. k * s < 2 ^ 63) (ap length asked.0 ∙ length-replicate n None) short in let bytes : n * s < 2 ^ 64 = omega (arith, fits) in
    move ! (1 ∷ []) $ fsplit ! $ drop ! $ fsplit ! $ fsplit ! $ drop ! $
    rewrite ! 0 (λ (p : Ptr). ‵ (claim_owned R (g.dealloc_token claim.from) p claim.count)) (asked.1 ∙ e) refl $
    rewrite ! 0 (λ (k : ℕ). ‵ (claim_owned R (g.dealloc_token claim.from) (block_ptr b o) k)) asked.2 refl $
    rewrite ! 0 (λ (x : A.Denot). ‵ (claim_owned R (g.dealloc_token x) (block_ptr b o) n)) asked.3 refl $
    move ! (2 ∷ []) $ rewrite ! 0 (λ (cs : List (Option X.Denot)). ‵ (row_at R cs b o)) asked.0 refl $
    use1 𝓛 (‵ (froom (ty_array tau n) b o)) (spent X 𝓛 b n o) $ as_raw ! (ty_array tau n) b o $
    move ! (3 ∷ []) $ fsplit ! $ drop ! $ move ! (4 ∷ []) $ split ! $ move ! (3 ∷ 4 ∷ 2 ∷ 0 ∷ []) $
    -- [the block; the right to it; a `&` to the allocator; its token; the other tokens; ..]
    regoal ! (λ (p : Ptr). prop (WpFn 𝓤 𝓛.H 𝓣.C 𝓣.Λ F (vptr at.0 at.1 ∷ one (ptr_val p) ∷ vint w64 n ∷ one (vstruct vnil) ∷ []) (W.post y))) e refl $
    enter ! _ _ _ _ _ $ alloc_all ! (λ l. pass_all ! refl ((tt, tt), ((tt, (tt, tt)), ((tt, record { fits = are.1.1.0.1 }), ((tt, (tt, tt)), tt)))) $
    let z = at_gives Z 𝓛 𝓜.mem 𝓡.returns κ q at from b o (n * s) al (block_ty E n) in
    sets ! (of_opd ! (get_in ! (fld ! refl (stop !)) (sub ! 0 refl (whole !)))) refl (tt, tt) $
    first ! $ blocks ! $ sets ! (of_opd ! (get ! refl)) refl (tt, tt) $
    sets ! (is ! (bin ! (get ! refl) (size_word !) (record {
      fits =
          subst (λ (k : ℕ). k < 2 ^ 64) (sym (uncapped n s bytes)) bytes;
    })) (ap (vint w64) (uncapped n s bytes))) refl (tt, record { fits = bytes }) $
    group ! 4 $ use1 𝓛 (raw ((Gives Z 𝓛 𝓜.mem 𝓡.returns).pre z)) (Gives-goes Z 𝓛 𝓜.mem 𝓡.returns κ q at from (Incl-trans bounds.0 lives) b o
    (n * s) al (block_ty E n) (block_size E n bytes) (block_align E n) bytes (capped_fits (align tau))) $
    calls_at_last ! (framed 𝓤 𝓛.H 𝓜 𝓣) (Gives Z 𝓛 𝓜.mem 𝓡.returns) (met.deallocate dd) z
    (and_then ! (get ! refl) (and_then ! (get ! refl) (and_then ! (get ! refl) (and_then ! (align_word !) (no_more !))))) (λ v.
    use1 𝓛 (later (given (v ≡ vunit) (‵ (flft κ q)))) (Gives-Gives Z 𝓛 𝓜.mem 𝓡.returns κ q at from b o (n * s) al (block_ty E n) v) $ await ! tt $ learn ! (λ nought.
    lands_last ! refl (subst (λ (w : Val). T (has_ty ty_unit w) × WT w) (sym nought) (tt, tt)) $ exec ! 𝓣.C 𝓣.Λ (env F.locals l) (after 2 F.body) (at_ret _ (W.post y)) $
    sets ! (of_opd ! (unit_lit !)) refl (tt, tt) $ returns ! (look_at ! 0 refl) $ free_all ! refl $ keep ! (0 ∷ 1 ∷ []) $
    suffices ! _ (ends_at 𝓛 T' stay c y vunit tt (tt, (tt, (tt, (tt, tt)))) (tt, (tt, (tt, (tt, tt))))) $
    join ! $ nothing ! $ nothing ! $ join ! $ nothing ! $ join ! $ nothing ! $ join ! $ nothing ! $ join ! $ move ! (1 ∷ 0 ∷ []) $
    feq_i ! _ (vunit ∷ []) _ refl $ move ! (1 ∷ 2 ∷ 0 ∷ []) $ group ! 3 $ nothing ! $ move ! (1 ∷ 0 ∷ []) $ done !))))))))
