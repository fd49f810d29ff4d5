-- `write` moves an item into a place. A walk of its code by hand; a context is shown as [first; second; ..].
use Rattle.std.proofs.Common.{◌≡◌, ◌++◌, ℕ, ◌*◌, ◌+◌, ◌^◌, ◌<◌, List, [], ◌∷◌, refl, sym, ap, ◌∙◌, w64, length, get_or, set, Some, None}
use Rattle.std.proofs.raw_atomic.Walks.{proved_at}
use Rattle.std.proofs.VecSteps.Shapes.{after}
use Rattle.std.specs.Mem.{type_size}
use Rattle.core.proofs.mem.Param.{one}
use Rattle.std_alloc.proofs.RawLayout.{as_written}
use base.Fraction.{full_share}
use base.Logic.{id⊢}
use base.Fml.{ftrue, flft}
use borrow.Table.OneValue.{part_in}
use contract.BorrowLft.{◌⊑◌}
use contract.Monad.{fact}
use contract.Running.{tables}
use mir.MapTy.{inst_fn}
use mir.Syntax.{a_type, named}
use mir.Val.{Val, vunit}
use prog.Wp.{WpFn}
use types.Kit.{‵, raw, prop, ◌⊛◌, at_ret, ◌$◌, ◌∵◌, !, qed, done, move, keep, drop, use1, use2, split, join, fsplit, fsplit3, fjoin, feq_i, flt_l, flt_i, rewrite, regoal, suffices, frame, group}
use types.Part.{whole, sub, look_in}
use types.Run.{enter, of_opd, unit_lit, bin, size_lit, load, init, stop, fld, assigns_last, first, blocks, exec, returns}
use types.ByLocal.{alloc_all, pass_all, free_all, look_at, get, through, sets, env}
use denote.Builtin.{usize}
use denote.Exit.{yes, no}
use denote.Laws.{shows}
use denote.Memory.{cell_at}
use denote.Param.{param, layout, layouts}
use denote.Param.Laws.{param_laws}
use denote.Plain.{uint_vals, uint_Tells}
use denote.RattleType.{RattleType, owns}
use denote.RawPtr.{Ptr, in_a_block}
use denote.Ref.{MutRef, mut_vals, mut_Tells}
use denote.Signature.{plain}
use denote.Steps.{nothing, opens, closes, peeks, heard}
use denote.Triple.Walked.{Stays, walk_of, says, stay_ref, stay_dropped, Goes-ref, Goes-dropped, ends_at}
use Rattle.abc_lines.specs.Places.{holds, row_at, row_owned}
use Rattle.abc_lines.specs.contracts.places.Places as P-type
use Rattle.abc_lines.specs.contracts.places.Places.write as f
use Rattle.abc_lines.specs.contracts.places.Places.write.Key as key
use Rattle.abc_lines.proofs.PlacesSteps.{reached, reached_one, besides, kept_count, lift, lower}
use Rattle.abc_lines.proofs.places.Places.TheLaws as laws
use Rattle.abc_lines.proofs.places.Places.write.Statement.{statement}
use Rattle.abc_lines.proofs.places.Places.write.Code as code

module _ (X : RattleType) where
  abbrev Row : RattleType
  Row = P-type.the_row (param 0 X)

  abbrev stayed : Stays (f.ended X).signature.params (f.ended X).kept
  stayed = (stay_ref (0 ∷ []) tt (plain (λ _. Row)), (stay_dropped (plain (λ _. usize)) yes, (stay_dropped (plain (λ _. param 0 X)) no, tt)))

pub write_spec : {M : Type 1} → statement M
write_spec 𝓤 𝓛 𝓜 𝓡 wired X LX =
    let R : RattleType = param 0 X in let s : ℕ = type_size R in let 𝓟 : RattleType = Row X in let tau = layout X in
    let called = layouts (a_type ∷ []) (X, tt) in let F = inst_fn called code.function in
    let c = f.clauses X 𝓛 𝓜.mem 𝓡.returns in let W = walk_of 𝓛 (f.ended X) (stayed X) c in let 𝓣 = tables 𝓤 𝓛.H 𝓜 𝓡 𝓡.env in
    proved_at 𝓛 (f.ended X) (stayed X) c 𝓜 𝓡
    (Goes-ref 𝓛 2 0 tt (plain (λ _. 𝓟)), (Goes-dropped 𝓛 2 (plain (λ _. usize)) yes (λ κs x w. refl), (Goes-dropped 𝓛 2 (plain (λ _. R)) no (λ κs x w. refl), tt)))
    (key.name called) F (code.unfolded 𝓤 𝓛.H 𝓜 𝓡 wired (X, tt)) (λ y are.
    let κs = y.0.0 in let qs = y.0.1 in let a = y.0.3 in let vss = y.0.4 in
    let b = a.0.ref_ptr.0 in let o = a.0.ref_ptr.1 in let p = a.0.now in let i = a.1.0 in let x = a.1.1.0 in
    let put = one (record { row = X; laws = LX }) vss.1.1.0 (((param_laws 0 X LX).lawful 𝓛).typed x vss.1.1.0 are.1.1.0) in let v = put.0 in let good = put.2 in
    qed 𝓛 (((‵ (flft κs.0 qs.0) ⊛ (‵ (flft κs.1.0 qs.1.0) ⊛ ‵ ftrue)) ⊛ ‵ (owns (MutRef (named 0) κs.0 𝓟 ∷ usize ∷ R ∷ []) a vss))
    ∷ (raw (fact 𝓤 (κs.1.0 ⊑ X.lives)) ⊛ raw (fact 𝓤 ((i < length p.row) × (get_or p.row i None ≡ None)))) ∷ []) ∵
    regoal ! (λ (ws : List Val). prop (WpFn 𝓤 𝓛.H 𝓣.C 𝓣.Λ F (ws ++ (vss.1.0 ++ (vss.1.1.0 ++ []))) (W.post y))) (mut_Tells (named 0) κs.0 𝓟 a.0 vss.0 are.0) refl $
    regoal ! (λ (ws : List Val). prop (WpFn 𝓤 𝓛.H 𝓣.C 𝓣.Λ F (mut_vals a.0 ++ (ws ++ (vss.1.1.0 ++ []))) (W.post y))) (uint_Tells w64 i vss.1.0 are.1.0) refl $
    regoal ! (λ (ws : List Val). prop (WpFn 𝓤 𝓛.H 𝓣.C 𝓣.Λ F (mut_vals a.0 ++ (uint_vals w64 i ++ (ws ++ []))) (W.post y))) put.1 refl $
    move ! (1 ∷ []) $ split ! $ drop ! $ heard ! _ (λ asked. let inside = asked.0 in
    enter ! _ _ _ _ _ $ alloc_all ! (λ l. pass_all ! refl ((tt, tt), ((tt, record { fits = are.1.0.1 }), (good, tt))) $
    split ! $ split ! $ move ! (2 ∷ []) $ fsplit ! $ move ! (1 ∷ []) $ fsplit ! $ drop ! $ fsplit ! $ rewrite ! 0 (λ (ws : List Val). ‵ (R.own_val x ws)) put.1 refl $
    move ! (2 ∷ []) $ fsplit3 ! $ move ! (1 ∷ 2 ∷ 5 ∷ []) $
    -- [the value of self; its borrow; its token; how self lies; what the item owns; ..]
    opens ! tt 𝓟 b o (λ us. move ! (1 ∷ []) $ peeks ! 𝓟 _ (shows 𝓛 𝓟) p us (λ is. fsplit ! $ move ! (1 ∷ []) $
    in_a_block ! p.start (λ at. row_owned R at p.row) (id⊢ 𝓤 _) (λ b' o' e. fsplit ! $ move ! (1 ∷ []) $ flt_l ! (λ short.
    let at = i * s + o' in let near = reached_one i (length p.row) s inside short in let far = reached i (length p.row) s inside short in
    let new : 𝓟.Denot = record p { row = set p.row i (Some x) } in
    let here = (laws.lowers R (param_laws 0 X LX)).val_is p us is ∙ ap (λ (q : Ptr). (laws.lowers R (param_laws 0 X LX)).lowered (record p { start = q }) ∷ []) e in
    let Cell = λ (ws : List Val). ‵ (cell_at full_share 𝓟.mir ws b o) in
    use1 𝓛 (‵ (holds R None b' at) ⊛ ‵ (besides R p.row i b' o')) (lift R 𝓛 p.row i b' o' inside None asked.1) $ split ! $ as_written ! tau b' at $ rewrite ! 3 Cell here refl $
    -- [room for an item; the other places; the fields; the bytes of self; the open borrow, in three entries; how self lies; the item; ..]
    first ! $ blocks ! $
    sets ! (of_opd ! (load ! (through ! refl (fld ! refl (stop !))) (look_in ! 3 (sub ! 0 refl (whole !))))) refl (tt, tt) $
    sets ! (bin ! (get ! refl) (size_lit ! (record { fits = near })) (record { fits = far })) refl (tt, record { fits = far }) $
    sets ! (bin ! (get ! refl) (get ! refl) tt) refl (tt, tt) $
    sets ! (of_opd ! (get ! refl)) refl good $
    assigns_last ! (of_opd ! (get ! refl)) (through ! refl (stop !)) (init ! 0 refl good) $
    exec ! 𝓣.C 𝓣.Λ (env F.locals l) (after 1 F.body) (at_ret _ (W.post y)) $
    sets ! (of_opd ! (unit_lit !)) refl (tt, tt) $
    move ! (0 ∷ 8 ∷ []) $ use2 𝓛 (‵ (holds R (Some x) b' at)) (part_in 𝓛 R refl full_share x b' at v) $
    use2 𝓛 (‵ (row_at R new.row b' o')) (lower R 𝓛 p.row i b' o' inside (Some x)) $
    flt_i ! (length new.row * s) (2 ^ 63) (kept_count R p.row i (Some x) short) $ move ! (1 ∷ 0 ∷ []) $ fjoin ! $
    rewrite ! 0 (λ (q : Ptr). ‵ (row_owned R q new.row)) (sym e) refl $ move ! (1 ∷ 0 ∷ []) $ fjoin ! $
    rewrite ! 1 Cell (sym here) refl $ move ! (1 ∷ 0 ∷ []) $ closes ! tt 𝓟 new us b o $
    returns ! (look_at ! 0 refl) $ free_all ! refl $ keep ! (3 ∷ 0 ∷ 1 ∷ 2 ∷ 5 ∷ []) $
    -- [self, in three entries; the tokens, in two]
    suffices ! _ (ends_at 𝓛 (f.ended X) (stayed X) c y vunit tt (new, (tt, (tt, tt))) (tt, (tt, (tt, tt)))) $ says ! (refl, refl) $
    group ! 3 $ nothing ! $ nothing ! $ join ! $ nothing ! $ join ! $ move ! (1 ∷ 0 ∷ []) $ join ! $ move ! (1 ∷ 2 ∷ []) $ join ! $ frame ! $ frame ! $
    feq_i ! _ (vunit ∷ []) _ refl $ done !)))))))
