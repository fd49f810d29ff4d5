-- `allocate` makes a row of the new block, and keeps the right to it. A walk of its code by hand; a context is shown as [first; second; ..].
use Rattle.std.proofs.Common.{ℕ, ◌*◌, ◌^◌, ◌<◌, List, [], ◌∷◌, refl, sym, ap, subst, arith, w64, length, lit<, replicate, true, false, None}
use Rattle.std.proofs.lemmas.List.{length-replicate}
use Rattle.std.proofs.raw_atomic.Walks.{proved}
use Rattle.std.proofs.VecSteps.Shapes.{after, head, arm_body}
use Rattle.std.specs.Mem.{type_size}
use Rattle.std.specs.Prelude.{Ok, Err}
use Rattle.std.specs.Vec.Ownership.{FitsInBlock}
use Rattle.std.specs.contracts.marker.PhantomData as Mark
use Rattle.core.proofs.alloc.Calls.{Al, Answer-typed, Takes, at_takes, Answered, Takes-goes, Takes-gives, answers}
use Rattle.core.proofs.mem.Param.{El}
use Rattle.core.proofs.slots.Leases.{uncapped, block_ty, block_size, block_align}
use Rattle.core.specs.contracts.alloc.AllocError as Refused
use Rattle.core.specs.contracts.result.Result as Results
use Rattle.core.specs.declared.alloc.Allocator.{Ghosts}
use Rattle.std_alloc.proofs.Pairs.{pair_val, pair_Typed, pair_of}
use Rattle.std_alloc.proofs.RawLayout.{as_written}
use Rattle.std_alloc.proofs.RcSteps.{first_Good}
use Rattle.std_alloc.proofs.ResultValues.{ok_of, err_of}
use base.Fml.{ftrue, flft, Incl-trans}
use contract.BorrowLft.{◌⊑◌}
use contract.Monad.{fact}
use contract.Running.{tables}
use mir.MapTy.{inst_fn}
use mir.Syntax.{Dict, a_type, named, ty_array, dcons, dnil}
use mir.Val.{Val, vint, vptr, vstruct, vcons, vnil}
use prog.Capped.{capped_fits}
use prog.Memory.{align, capped}
use prog.Wp.{Wp, after_seq, at_return}
use types.Kit.{‵, raw, ◌⊛◌, later, await, any_q, at_ret, ◌$◌, ◌∵◌, !, qed, done, move, keep, drop, use1, use2, split, join, fsplit, fjoin, feq_i, flt_i, suffices, frame}
use types.Match.{live, vrt, in_variant}
use types.Part.{whole, agg}
use types.Run.{enter, of_opd, lit, bin, size_word, align_word, and_then, no_more, stop, fld, first, switches_on, exec, returns}
use types.ByLocal.{alloc_all, pass_all, free_all, look_at, get, get_in, get_tag, is, lands_as, sets, sets_last, env}
use denote.Builtin.{usize, RefOf}
use denote.Exit.{yes}
use denote.Laws.{Is}
use denote.Param.{param, layout, bounded}
use denote.Plain.{uint_vals, uint_Tells}
use denote.RattleType.{RattleType, owns}
use denote.RawPtr.{RawPtr, block_ptr}
use denote.Ref.{ShrRef, shr_vals, shr_Tells}
use denote.Signature.{plain}
use denote.Steps.{nothing, owned}
use denote.Struct.Declared as Declared
use denote.Struct.Laws.{makes}
use denote.Struct.Struct.{Struct, Struct-Makes}
use denote.Struct.Tuple.{Tuple}
use denote.Steps.{heard}
use denote.Triple.Call.{calls_at}
use denote.Triple.Table.{framed}
use denote.Triple.Walked.{Stays, walk_of, says, stay_dropped, Goes-dropped, ends_at}
use Rattle.abc_lines.specs.Places.{row_at}
use Rattle.abc_lines.specs.contracts.places.Places as P-type
use Rattle.abc_lines.specs.contracts.places.Claim as C-type
use Rattle.abc_lines.specs.contracts.places.allocate as f
use Rattle.abc_lines.specs.contracts.places.allocate.Key as key
use Rattle.abc_lines.proofs.PlacesSteps.{fresh, one, one_made}
use Rattle.abc_lines.proofs.places.allocate.Statement.{statement}
use Rattle.abc_lines.proofs.places.allocate.Code as code

module _ (X A : RattleType) (g : Ghosts A.Denot) (d dd : Dict) where
  abbrev stayed : Stays (f.ended X A g d dd).signature.params (f.ended X A g d dd).kept
  stayed = (stay_dropped (RefOf (0 ∷ []) tt (plain (λ _. param 1 A)) (λ _. tt)) yes, (stay_dropped (plain (λ _. usize)) yes, tt))

pub allocate_spec : {M : Type 1} → statement M
allocate_spec 𝓤 𝓛 𝓜 𝓡 wired X A LX LA g d dd met md =
    let E : El = record { row = X; laws = LX } in let Z : Al = record { row = A; laws = LA; g = g; d = d; drops = dd } in
    let R : RattleType = param 0 X in let s : ℕ = type_size R in let tau = layout X in let al : ℕ = capped (align tau) in
    let 𝓟 : RattleType = P-type.the_row R in let 𝓒 : RattleType = C-type.the_row R (param 1 A) g in let Both : RattleType = Tuple (𝓟 ∷ 𝓒 ∷ []) in
    let called = bounded (a_type ∷ a_type ∷ []) (X, (A, tt)) (dcons d (dcons dd dnil)) in let F = inst_fn called code.function in
    let T = f.ended X A g d dd in let stay = stayed X A g d dd in
    let c = f.clauses X A g d dd 𝓛 𝓜.mem 𝓡.returns in let W = walk_of 𝓛 T stay c in let 𝓣 = tables 𝓤 𝓛.H 𝓜 𝓡 𝓡.env in
    proved 𝓛 T stay c 𝓜 𝓡
    (Goes-dropped 𝓛 3 (RefOf (0 ∷ []) tt (plain (λ _. param 1 A)) (λ _. tt)) yes (λ κs x w. refl), (Goes-dropped 𝓛 3 (plain (λ _. usize)) yes (λ κs x w. refl), tt))
    (key.name called) F (code.unfolded 𝓤 𝓛.H 𝓜 𝓡 wired (X, (A, tt)) d dd)
    (λ κs. (shr_vals, (uint_vals w64, tt))) (λ κs. (shr_Tells (named 0) κs.0 (param 1 A), (uint_Tells w64, tt))) (λ κs qs bounds a u are.
    let κ = κs.0 in let q = qs.0 in let from = a.0.now in let at = a.0.ref_ptr in let n = a.1.0 in let vs = shr_vals a.0 in
    let y : W.Ghost = ((κs, qs, bounds, a, (vs, (uint_vals w64 n, tt))), u) in
    qed 𝓛 (((‵ (flft κ q) ⊛ (‵ (flft κs.1.0 qs.1.0) ⊛ (‵ (flft κs.1.1.0 qs.1.1.0) ⊛ ‵ ftrue))) ⊛ ‵ (owns (ShrRef (named 0) κ (param 1 A) ∷ usize ∷ []) a (vs, (uint_vals w64 n, tt))))
    ∷ (raw (fact 𝓤 (κs.1.0 ⊑ X.lives)) ⊛ (raw (fact 𝓤 (κs.1.1.0 ⊑ A.lives)) ⊛ raw (fact 𝓤 (FitsInBlock R n)))) ∷ []) ∵
    move ! (1 ∷ []) $ split ! $ drop ! $ split ! $ heard ! _ (λ lives. heard ! _ (λ fits.
    let bytes : n * s < 2 ^ 64 = omega (arith, fits.0) in
    enter ! _ _ _ _ _ $ alloc_all ! (λ l. pass_all ! refl ((tt, tt), ((tt, record { fits = are.1.0.1 }), tt)) $
    split ! $ split ! $ move ! (2 ∷ []) $ fsplit ! $ fsplit ! $ drop ! $ move ! (0 ∷ 2 ∷ []) $
    -- [a `&` to the allocator; its token; ..; the other tokens; ..]
    let z = at_takes Z 𝓛 𝓜.mem 𝓡.returns κ q at from (n * s) al (block_ty E n) in
    sets ! (is ! (bin ! (get ! refl) (size_word !) (record {
      fits =
          subst (λ (k : ℕ). k < 2 ^ 64) (sym (uncapped n s bytes)) bytes;
    })) (ap (vint w64) (uncapped n s bytes))) refl (tt, record { fits = bytes }) $
    use2 𝓛 (raw ((Takes Z 𝓛 𝓜.mem 𝓡.returns).pre z)) (Takes-goes Z 𝓛 𝓜.mem 𝓡.returns κ q at from (Incl-trans bounds.0 lives)
    (n * s) al (block_ty E n) (block_size E n bytes) (block_align E n) bytes (capped_fits (align tau))) $
    calls_at ! (framed 𝓤 𝓛.H 𝓜 𝓣) (Takes Z 𝓛 𝓜.mem 𝓡.returns) (met.allocate dd) z (and_then ! (get ! refl) (and_then ! (get ! refl) (and_then ! (align_word !) (no_more !)))) (λ v.
    use1 𝓛 (later (raw (Answered Z 𝓛 𝓜.mem 𝓡.returns from (block_ty E n) v) ⊛ ‵ (flft κ q))) (Takes-gives Z 𝓛 𝓜.mem 𝓡.returns κ q at from (n * s) al (block_ty E n) v) $ await ! tt $ split ! $
    let En = env F.locals l in
    let Then = any_q (after_seq 𝓤 𝓛.H (Wp 𝓤 𝓛.H 𝓣.C 𝓣.Λ En (after 3 F.body) (at_return 𝓤 𝓛.H En (W.post y))) (at_return 𝓤 𝓛.H En (W.post y))) in
    answers Z ! 𝓜.mem 𝓡.returns from (block_ty E n) v
    (λ b o e.
    let start = block_ptr b o in let places : 𝓟.Denot = record { start = start; row = replicate n None } in
    let claim : 𝓒.Denot = record { right = record {}; start = start; count = n; from = from } in
    let nought = vstruct vnil in let made = pair_val (one (vptr b o)) (one nought) in
    let typed = pair_Typed (layout 𝓟) (layout 𝓒) (one (vptr b o)) (one nought) (tt, (tt, tt)) (tt, (tt, tt)) in let ok = first_Good (layout Both) made typed in
    lands_as ! e refl (Answer-typed true b o) $ first ! $ switches_on ! (get_tag ! (vrt ! refl (fld ! refl (stop !))) (whole !)) $ exec ! 𝓣.C 𝓣.Λ En (arm_body 0 (head (after 2 F.body))) Then $
    sets ! (of_opd ! (get_in ! (vrt ! refl (fld ! refl (stop !))) (in_variant ! 0 0 refl refl (whole !)))) refl (tt, tt) $ sets ! (of_opd ! (get ! refl)) refl (tt, tt) $
    sets ! (agg ! (and_then ! (get ! refl) (no_more !))) refl (tt, (tt, tt)) $
    sets ! (agg ! (no_more !)) refl (tt, tt) $ sets ! (agg ! (and_then ! (get ! refl) (no_more !))) refl (tt, (tt, tt)) $
    sets ! (agg ! (and_then ! (get ! refl) (and_then ! (get ! refl) (no_more !)))) refl typed $
    sets_last ! (agg ! (and_then ! (lit ! tt) (and_then ! (get ! refl) (no_more !)))) refl ok $
    exec ! 𝓣.C 𝓣.Λ En (after 3 F.body) (at_ret En (W.post y)) $ sets ! (of_opd ! (get ! refl)) refl ok $
    -- [the block; the right to it; the token of the allocator; ..; the other tokens; ..]
    as_written ! (ty_array tau n) b o $ use1 𝓛 (‵ (row_at R places.row b o)) (fresh X 𝓛 b n o) $
    flt_i ! (length places.row * s) (2 ^ 63) (subst (λ k. k * s < 2 ^ 63) (sym (length-replicate n None)) fits.0) $ move ! (1 ∷ 0 ∷ []) $ fjoin ! $
    feq_i ! (List Val) (vptr b o ∷ []) (vptr b o ∷ []) refl $ one_made ! RawPtr start (vptr b o) $ fjoin ! $
    move ! (1 ∷ []) $ owned ! (Mark.the_row RawPtr) (Is (Mark.the_row RawPtr)) (makes (Mark.the_type RawPtr) tt 𝓛) (record {}) (nought ∷ []) (tt, (refl, tt)) $
    one_made ! (Mark.the_row RawPtr) (record {}) nought $ fjoin ! $ move ! (1 ∷ 0 ∷ []) $
    use2 𝓛 (‵ (Both.own_val (places, claim) (made ∷ []))) (pair_of 𝓛 𝓟 𝓒 places claim (one (vptr b o)) (one nought)) $
    use1 𝓛 (‵ ((Results.the_row Both Refused.the_row).own_val (Ok (places, claim)) (live 0 (vcons made vnil) ∷ []))) (ok_of 𝓛 Both Refused.the_row (places, claim) made) $
    -- [what is returned; the token of the allocator; ..; the other tokens]
    returns ! (look_at ! 0 refl) $ free_all ! refl $ keep ! (0 ∷ 1 ∷ 3 ∷ []) $
    suffices ! _ (ends_at 𝓛 T stay c y (live 0 (vcons made vnil)) (Ok (places, claim)) (tt, (tt, tt)) (tt, (tt, tt))) $ says ! (refl, refl, refl, refl) $
    move ! (1 ∷ 2 ∷ []) $ join ! $ frame ! $ nothing ! $ nothing ! $ join ! $ nothing ! $ join ! $ frame ! $ done !)
    (λ e.
    let refusal = live 1 (vcons (vstruct vnil) vnil) in
    lands_as ! e refl (Answer-typed false 0 0) $ first ! $ switches_on ! (get_tag ! (vrt ! refl (fld ! refl (stop !))) (whole !)) $ exec ! 𝓣.C 𝓣.Λ En (arm_body 1 (head (after 2 F.body))) Then $
    sets ! (of_opd ! (get_in ! (vrt ! refl (fld ! refl (stop !))) (in_variant ! 1 0 refl refl (whole !)))) refl (tt, tt) $
    sets_last ! (agg ! (and_then ! (lit ! tt) (and_then ! (get ! refl) (no_more !)))) refl (tt, (record { fits = lit< tt }, (tt, tt))) $
    exec ! 𝓣.C 𝓣.Λ En (after 3 F.body) (at_ret En (W.post y)) $ sets ! (of_opd ! (get ! refl)) refl (tt, (record { fits = lit< tt }, (tt, tt))) $
    owned ! (Struct (Declared.shape Refused.the_type)) (Is (Struct (Declared.shape Refused.the_type))) (Struct-Makes 𝓛 (Declared.shape Refused.the_type) tt) tt (vstruct vnil ∷ []) (tt, (refl, tt)) $
    use1 𝓛 (‵ ((Results.the_row Both Refused.the_row).own_val (Err (record {})) (refusal ∷ []))) (err_of 𝓛 Both Refused.the_row (record {}) (vstruct vnil)) $
    -- [what is returned; the token of the allocator; ..; the other tokens]
    returns ! (look_at ! 0 refl) $ free_all ! refl $ keep ! (0 ∷ 1 ∷ 3 ∷ []) $
    suffices ! _ (ends_at 𝓛 T stay c y (refusal) (Err (record {})) (tt, (tt, tt)) (tt, (tt, tt))) $ says ! tt $
    move ! (1 ∷ 2 ∷ []) $ join ! $ frame ! $ nothing ! $ nothing ! $ join ! $ nothing ! $ join ! $ frame ! $ done !))))))
