-- `read` moves the item out of its place. A walk of its code by hand; a context is shown as [first; second; ..].
use Rattle.std.proofs.Common.{◌≡◌, ℕ, ◌*◌, ◌+◌, ◌^◌, List, [], ◌∷◌, refl, sym, ap, ◌∙◌, w64, length, get_or, set, Some, None}
use Rattle.std.proofs.raw_atomic.Walks.{proved}
use Rattle.std.proofs.VecSteps.Shapes.{after}
use Rattle.std.specs.Mem.{type_size}
use Rattle.std_alloc.proofs.RawLayout.{as_raw}
use base.Fraction.{full_share}
use base.Logic.{id⊢}
use base.Fml.{ftrue, fat, froom, flft}
use borrow.Table.OneValue.{part_out}
use contract.BorrowLft.{◌⊑◌}
use contract.Monad.{fact}
use contract.Running.{tables}
use mir.MapTy.{inst_fn}
use mir.Syntax.{a_type, named}
use mir.Val.{Val}
use types.Kit.{‵, raw, ◌⊛◌, some, at_ret, ◌$◌, ◌∵◌, !, qed, done, move, keep, drop, use1, use2, pick, split, join, fsplit, fsplit3, fjoin, flt_l, flt_i, rewrite, suffices, group}
use types.Part.{whole, sub, look_in}
use types.Run.{enter, of_opd, bin, size_lit, load, look, stop, fld, first, blocks, exec, returns, well_typed}
use types.ByLocal.{alloc_all, pass_all, free_all, look_at, get, through, sets, sets_last, env}
use denote.Builtin.{usize}
use denote.Exit.{yes}
use denote.Laws.{shows}
use denote.Memory.{cell_at}
use denote.Param.{param, layout, layouts}
use denote.Param.Laws.{param_laws}
use denote.Plain.{uint_vals, uint_Tells}
use denote.RattleType.{RattleType, owns}
use denote.RawPtr.{Ptr, in_a_block}
use denote.Ref.{MutRef, mut_vals, mut_Tells}
use denote.Signature.{plain}
use denote.Steps.{nothing, opens, closes, peeks, heard}
use denote.Triple.Walked.{Stays, walk_of, says, stay_ref, stay_dropped, Goes-ref, Goes-dropped, ends_at}
use Rattle.abc_lines.specs.Places.{holds, row_at, row_owned}
use Rattle.abc_lines.specs.contracts.places.Places as P-type
use Rattle.abc_lines.specs.contracts.places.Places.read as f
use Rattle.abc_lines.specs.contracts.places.Places.read.Key as key
use Rattle.abc_lines.proofs.PlacesSteps.{full_inside, reached, reached_one, besides, kept_count, lift, lower}
use Rattle.abc_lines.proofs.places.Places.TheLaws as laws
use Rattle.abc_lines.proofs.places.Places.read.Statement.{statement}
use Rattle.abc_lines.proofs.places.Places.read.Code as code

module _ (X : RattleType) where
  abbrev Row : RattleType
  Row = P-type.the_row (param 0 X)

  abbrev stayed : Stays (f.ended X).signature.params (f.ended X).kept
  stayed = (stay_ref (0 ∷ []) tt (plain (λ _. Row)), (stay_dropped (plain (λ _. usize)) yes, tt))

pub read_spec : {M : Type 1} → statement M
read_spec 𝓤 𝓛 𝓜 𝓡 wired X LX =
    let R : RattleType = param 0 X in let s : ℕ = type_size R in let 𝓟 : RattleType = Row X in
    let called = layouts (a_type ∷ []) (X, tt) in let F = inst_fn called code.function in
    let c = f.clauses X 𝓛 𝓜.mem 𝓡.returns in let W = walk_of 𝓛 (f.ended X) (stayed X) c in let 𝓣 = tables 𝓤 𝓛.H 𝓜 𝓡 𝓡.env in
    proved 𝓛 (f.ended X) (stayed X) c 𝓜 𝓡 (Goes-ref 𝓛 2 0 tt (plain (λ _. 𝓟)), (Goes-dropped 𝓛 2 (plain (λ _. usize)) yes (λ κs x w. refl), tt))
    (key.name called) F (code.unfolded 𝓤 𝓛.H 𝓜 𝓡 wired (X, tt))
    (λ κs. (mut_vals, (uint_vals w64, tt))) (λ κs. (mut_Tells (named 0) κs.0 𝓟, (uint_Tells w64, tt))) (λ κs qs bounds a g are.
    let b = a.0.ref_ptr.0 in let o = a.0.ref_ptr.1 in let p = a.0.now in let i = a.1.0 in let vs = mut_vals a.0 in
    let y : W.Ghost = ((κs, qs, bounds, a, (vs, (uint_vals w64 i, tt))), g) in
    qed 𝓛 (((‵ (flft κs.0 qs.0) ⊛ (‵ (flft κs.1.0 qs.1.0) ⊛ ‵ ftrue)) ⊛ ‵ (owns (MutRef (named 0) κs.0 𝓟 ∷ usize ∷ []) a (vs, (uint_vals w64 i, tt))))
    ∷ (raw (fact 𝓤 (κs.1.0 ⊑ X.lives)) ⊛ raw (fact 𝓤 ((x : X.Denot) × (get_or p.row i None ≡ Some x)))) ∷ []) ∵
    move ! (1 ∷ []) $ split ! $ drop ! $ heard ! _ (λ full. let x = full.0 in let inside = full_inside p.row i x full.1 in
    enter ! _ _ _ _ _ $ alloc_all ! (λ l. pass_all ! refl ((tt, tt), ((tt, record { fits = are.1.0.1 }), tt)) $
    split ! $ split ! $ move ! (2 ∷ []) $ fsplit ! $ fsplit3 ! $ move ! (1 ∷ 2 ∷ 4 ∷ []) $
    -- [the value of self; its borrow; its token; ..]
    opens ! tt 𝓟 b o (λ us. move ! (1 ∷ []) $ peeks ! 𝓟 _ (shows 𝓛 𝓟) p us (λ is. fsplit ! $ move ! (1 ∷ []) $
    in_a_block ! p.start (λ at. row_owned R at p.row) (id⊢ 𝓤 _) (λ b' o' e. fsplit ! $ move ! (1 ∷ []) $ flt_l ! (λ short.
    let at = i * s + o' in let tau = layout X in let near = reached_one i (length p.row) s inside short in let far = reached i (length p.row) s inside short in
    let new : 𝓟.Denot = record p { row = set p.row i None } in
    let lower_val = (laws.lowers R (param_laws 0 X LX)).val_is p us is ∙ ap (λ (q : Ptr). (laws.lowers R (param_laws 0 X LX)).lowered (record p { start = q }) ∷ []) e in
    let Cell = λ (ws : List Val). ‵ (cell_at full_share 𝓟.mir ws b o) in
    use1 𝓛 (‵ (holds R (Some x) b' at) ⊛ ‵ (besides R p.row i b' o')) (lift R 𝓛 p.row i b' o' inside (Some x) full.1) $ split ! $
    use1 𝓛 (some (λ (v : Val). ‵ (fat full_share tau b' at v) ⊛ ‵ (R.own_val x (v ∷ [])))) (part_out 𝓛 R refl full_share x b' at) $ pick ! (λ v. split ! $
    rewrite ! 4 Cell lower_val refl $ well_typed ! (λ good.
    -- [the item's bytes; what it owns; the other places; the fields; the bytes of self; the open borrow, in three entries; ..]
    first ! $ blocks ! $
    sets ! (of_opd ! (load ! (through ! refl (fld ! refl (stop !))) (look_in ! 4 (sub ! 0 refl (whole !))))) refl (tt, tt) $
    sets ! (bin ! (get ! refl) (size_lit ! (record { fits = near })) (record { fits = far })) refl (tt, record { fits = far }) $
    sets ! (bin ! (get ! refl) (get ! refl) tt) refl (tt, tt) $
    sets_last ! (of_opd ! (load ! (through ! refl (stop !)) (look ! 0 refl))) refl good $
    exec ! 𝓣.C 𝓣.Λ (env F.locals l) (after 1 F.body) (at_ret _ (W.post y)) $
    sets ! (of_opd ! (get ! refl)) refl good $
    use1 𝓛 (‵ (froom tau b' at)) (𝓛.laws.at_room tau b' at v) $ as_raw ! tau b' at $ move ! (0 ∷ 2 ∷ []) $
    use2 𝓛 (‵ (row_at R new.row b' o')) (lower R 𝓛 p.row i b' o' inside None) $
    -- [the row; what the item owns; the fields; the bytes of self; the open borrow; ..]
    flt_i ! (length new.row * s) (2 ^ 63) (kept_count R p.row i None short) $ move ! (1 ∷ 0 ∷ []) $ fjoin ! $
    rewrite ! 0 (λ (q : Ptr). ‵ (row_owned R q new.row)) (sym e) refl $ move ! (2 ∷ 0 ∷ []) $ fjoin ! $
    rewrite ! 2 Cell (sym lower_val) refl $ move ! (2 ∷ 0 ∷ 3 ∷ 4 ∷ 5 ∷ []) $ closes ! tt 𝓟 new us b o $
    returns ! (look_at ! 0 refl) $ free_all ! refl $ keep ! (4 ∷ 0 ∷ 1 ∷ 2 ∷ 6 ∷ 3 ∷ []) $
    -- [self, in three entries; the tokens, in two; what the item owns]
    suffices ! _ (ends_at 𝓛 (f.ended X) (stayed X) c y v x (new, (tt, tt)) (tt, (tt, tt))) $ says ! (full.1, refl, refl) $
    group ! 3 $ nothing ! $ nothing ! $ join ! $ move ! (1 ∷ 0 ∷ []) $ join ! $ move ! (1 ∷ 2 ∷ []) $ join ! $ done !)))))))))
