-- `get` shows the item in its place. A walk of its code by hand; a context is shown as [first; second; ..].
use Rattle.std.proofs.Common.{◌≡◌, ℕ, ◌*◌, ◌+◌, List, [], ◌∷◌, refl, sym, subst, w64, length, get_or, Some, None}
use Rattle.std.proofs.raw_atomic.Walks.{proved}
use Rattle.std.proofs.VecSteps.Shapes.{after}
use Rattle.std.specs.Mem.{type_size}
use Rattle.std_alloc.proofs.Words.{pointer_in, pointer_out}
use base.Logic.{id⊢}
use base.Fml.{ftrue, fat, flft, fhide}
use contract.BorrowLft.{◌⊑◌}
use contract.Monad.{fact}
use contract.Running.{tables}
use mir.MapTy.{inst_fn}
use mir.Syntax.{a_type, named, ty_ptr}
use mir.Val.{Val, vptr}
use types.Kit.{‵, raw, ◌⊛◌, at_ret, ◌$◌, ◌∵◌, !, qed, done, move, keep, drop, use1, split, join, fsplit, fjoin, feq_i, flt_l, rewrite, suffices, frame}
use types.Run.{enter, of_opd, bin, size_lit, addr, load, look, stop, fld, first, blocks, exec, returns}
use types.ByLocal.{alloc_all, pass_all, free_all, look_at, get, through, sets, sets_last, env}
use denote.Builtin.{usize, RefOf}
use denote.Exit.{yes}
use denote.Memory.{hidden_shr}
use denote.Opens.{hide, unhide, shr_dup}
use denote.Param.{param, layouts}
use denote.Plain.{uint_vals, uint_Tells}
use denote.RattleType.{RattleType, owns}
use denote.RawPtr.{Ptr, RawPtr, InBlock, block_of, count_of, in_a_block, ptr_row_laws}
use denote.Ref.{ShrRef, shr_vals, shr_Tells}
use denote.Signature.{plain}
use denote.Steps.{nothing, heard}
use denote.Struct.Lending.{lent_out}
use denote.Struct.Owning.{shape}
use denote.Struct.Struct.{Struct}
use denote.Triple.Walked.{Stays, walk_of, says, stay_dropped, Goes-dropped, ends_at}
use Rattle.abc_lines.specs.Places.{shows, row_lent}
use Rattle.abc_lines.specs.contracts.places.Places as P-type
use Rattle.abc_lines.specs.contracts.places.Places.get as f
use Rattle.abc_lines.specs.contracts.places.Places.get.Key as key
use Rattle.abc_lines.proofs.PlacesSteps.{full_inside, reached, reached_one, sees}
use Rattle.abc_lines.proofs.places.Places.get.Statement.{statement}
use Rattle.abc_lines.proofs.places.Places.get.Code as code

module _ (X : RattleType) where
  abbrev Row : RattleType
  Row = P-type.the_row (param 0 X)

  abbrev stayed : Stays (f.ended X).signature.params (f.ended X).kept
  stayed = (stay_dropped (RefOf (0 ∷ []) tt (plain (λ _. Row)) (λ _. tt)) yes, (stay_dropped (plain (λ _. usize)) yes, tt))

pub get_spec : {M : Type 1} → statement M
get_spec 𝓤 𝓛 𝓜 𝓡 wired X LX =
    let R : RattleType = param 0 X in let s : ℕ = type_size R in let 𝓟 : RattleType = Row X in
    let called = layouts (a_type ∷ []) (X, tt) in let F = inst_fn called code.function in
    let c = f.clauses X 𝓛 𝓜.mem 𝓡.returns in let W = walk_of 𝓛 (f.ended X) (stayed X) c in let 𝓣 = tables 𝓤 𝓛.H 𝓜 𝓡 𝓡.env in
    proved 𝓛 (f.ended X) (stayed X) c 𝓜 𝓡
    (Goes-dropped 𝓛 2 (RefOf (0 ∷ []) tt (plain (λ _. 𝓟)) (λ _. tt)) yes (λ κs x w. refl), (Goes-dropped 𝓛 2 (plain (λ _. usize)) yes (λ κs x w. refl), tt))
    (key.name called) F (code.unfolded 𝓤 𝓛.H 𝓜 𝓡 wired (X, tt))
    (λ κs. (shr_vals, (uint_vals w64, tt))) (λ κs. (shr_Tells (named 0) κs.0 𝓟, (uint_Tells w64, tt))) (λ κs qs bounds a g are.
    let κ = κs.0 in let b = a.0.ref_ptr.0 in let o = a.0.ref_ptr.1 in let p = a.0.now in let i = a.1.0 in let vs = shr_vals a.0 in
    let y : W.Ghost = ((κs, qs, bounds, a, (vs, (uint_vals w64 i, tt))), g) in
    qed 𝓛 (((‵ (flft κ qs.0) ⊛ (‵ (flft κs.1.0 qs.1.0) ⊛ ‵ ftrue)) ⊛ ‵ (owns (ShrRef (named 0) κ 𝓟 ∷ usize ∷ []) a (vs, (uint_vals w64 i, tt))))
    ∷ (raw (fact 𝓤 (κs.1.0 ⊑ X.lives)) ⊛ raw (fact 𝓤 ((x : X.Denot) × (get_or p.row i None ≡ Some x)))) ∷ []) ∵
    move ! (1 ∷ []) $ split ! $ drop ! $ heard ! _ (λ full. let x = full.0 in let inside = full_inside p.row i x full.1 in
    enter ! _ _ _ _ _ $ alloc_all ! (λ l. pass_all ! refl ((tt, tt), ((tt, record { fits = are.1.0.1 }), tt)) $
    split ! $ split ! $ move ! (2 ∷ []) $ fsplit ! $ fsplit ! $ drop ! $
    use1 𝓛 (‵ (hidden_shr (Struct (shape (P-type.the_type R))) κ (p.start, tt) b o) ⊛ ‵ (fhide (row_lent R p.start p.row κ)))
    (lent_out 𝓛 (P-type.struct R) (P-type.the_codes X.Denot X.coded) (P-type.the_heap R) (P-type.the_lent R) κ p b o) $ split ! $
    move ! (1 ∷ []) $ unhide ! $ in_a_block ! p.start (λ at. row_lent R at p.row κ) (id⊢ 𝓤 _) (λ b' o' e. fsplit ! $ move ! (1 ∷ []) $ flt_l ! (λ short.
    let at = i * s + o' in let near = reached_one i (length p.row) s inside short in let far = reached i (length p.row) s inside short in
    let known : InBlock p.start = subst InBlock (sym e) tt in
    use1 𝓛 (‵ (shows R (Some x) b' at κ)) (sees R 𝓛 κ p.row i b' o' inside (Some x) full.1) $ hide ! $
    -- [a `&` to the item; a `&` to the fields; ..]
    move ! (1 ∷ []) $ unhide ! $ fsplit ! $ fsplit ! $ hide ! $ move ! (0 ∷ 5 ∷ []) $
    first ! $ blocks ! $
    pointer_in ! tt p.start known b (o + 0) (qed 𝓛 (‵ (hidden_shr RawPtr κ p.start b (o + 0)) ∷ []) ∵ shr_dup ! RawPtr ptr_row_laws p.start b (o + 0) κ $ done !) (λ q.
    rewrite ! 1 (λ (z : Ptr). ‵ (fat q ty_ptr b (o + 0) (vptr (block_of z) (count_of z)))) e refl $
    sets ! (of_opd ! (load ! (through ! refl (fld ! refl (stop !))) (look ! 1 refl))) refl (tt, tt) $
    rewrite ! 1 (λ (z : Ptr). ‵ (fat q ty_ptr b (o + 0) (vptr (block_of z) (count_of z)))) (sym e) refl $
    pointer_out ! tt p.start known b (o + 0) $
    sets ! (bin ! (get ! refl) (size_lit ! (record { fits = near })) (record { fits = far })) refl (tt, record { fits = far }) $
    sets ! (bin ! (get ! refl) (get ! refl) tt) refl (tt, tt) $
    sets_last ! (addr ! (through ! refl (stop !))) refl (tt, tt) $
    exec ! 𝓣.C 𝓣.Λ (env F.locals l) (after 1 F.body) (at_ret _ (W.post y)) $
    sets ! (of_opd ! (get ! refl)) refl (tt, tt) $
    returns ! (look_at ! 0 refl) $ free_all ! refl $ keep ! (0 ∷ 6 ∷ 4 ∷ []) $
    -- [the tokens, in two; a `&` to the item]
    suffices ! _ (ends_at 𝓛 (f.ended X) (stayed X) c y (vptr b' at) (record { ref_ptr = (b', at); now = x }) (tt, (tt, tt)) (tt, (tt, tt))) $ says ! full.1 $
    join ! $ frame ! $ nothing ! $ nothing ! $ join ! $ nothing ! $ join ! $ frame ! $
    feq_i ! (List Val) (vptr b' at ∷ []) (vptr b' at ∷ []) refl $ fjoin ! $ done !))))))
