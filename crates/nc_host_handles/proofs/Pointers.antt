-- The walks of the functions of a C struct with a pointer, once for every such struct. `X` is the type of the pointer's target, and `ν` the struct's name.
-- A function's own proof names these, its code and its clause.
use mathlib.Core.Path.{◌≡◌, refl, sym, subst}
use mathlib.Core.List.{List, [], ◌∷◌, ◌++◌}
use Rattle.std.specs.Prelude.{Option, Some, None}
use seplogic.Ra.Ura.{Ura}
use lib.Dec.{lit<}
use mir.Syntax.{Sym, Ty, Fn, Body, ty_struct, ty_ptr, ty_bool, tcons, tnil, dnil, impl, local, value_local, place, field, copy, int, w8, w64, ptr_eq, op2, assign, rv_opd, aggregate, cond, seq, return}
use mir.Raw.{raw as bare}
use mir.Val.{Val, vnull, vstruct, vcons, vnil, of_list, has_ty}
use base.Logic.{SProp, ent, emp, id⊢, guard_i}
use base.Fml.{Fml, ftrue, fsep}
use prog.Model.{Model}
use prog.Routine.{Callee}
use prog.Wp.{WpFn, Tables, Closed}
use types.Logic.{Logic, sem}
use contract.Monad.{fact, fact_use}
use contract.Running.{Running, tables, tables_of}
use sound.WpLaws.{WpFn-mono}
use types.Kit.{Item, ‵, raw, given, ◌⊛◌, at_ret, ◌$◌, ◌∵◌, !, qed, by, move, drop, use0, use1, learn, join, split, fsplit, fjoin, fpick, feq_l, feq_i, fpack, suffices, done}
use types.Match.{live}
use types.Part.{whole, sub, agg}
use types.Run.{stop, fld, no_more, and_then, of_opd, lit, bin, first, branches, exec, returns, enter}
use types.ByLocal.{alloc_all, pass_all, free_all, look_at, get, get_in, sets, sets_last, env}
use denote.Exit.{Last, left, yes}
use denote.RattleType.{RattleType, Valss}
use denote.RawPtr.{Ptr, RawPtr, block_ptr, null_ptr, ptr_val, Testable, tests_null}
use denote.Param.{layout}
use denote.Param.Laws.{Laws}
use denote.Signature.{plain}
use denote.Steps.{nothing}
use denote.Struct.Struct.{Shape, Struct, within}
use denote.Triple.Clauses.{Ended, Clauses, closing}
use denote.Triple.Spec.{triple_of, Meets}
use denote.Triple.Table.{entered}
use denote.Triple.Walked.{says, Stays, stay_dropped, walk_of, ends_at, Goes-dropped, walk_Meets}
use Rattle.core.proofs.alloc.Calls.{Al, α, token, handle_tells}
use Rattle.core.proofs.cell.Inside.{Good}
use Rattle.core.proofs.option.Made.{Some-of, none_of}
use Rattle.core.specs.contracts.option.Option as Option'
use Rattle.std_alloc.proofs.ResultValues.{and_tt}
use Rattle.std_alloc.proofs.BoxSteps.Form.{Bx, D, R, B, τ, word, box_typed}
use Rattle.std_alloc.proofs.BoxSteps.Steps.{box_out, box_in}
use Rattle.std.specs.Global.{Global}
use Rattle.std_heap.specs.contracts.Global as Heap
use Rattle.std_heap.specs.contracts.GlobalAllocator.TheImpl.{ghosts, dict}
use Rattle.std_heap.proofs.Global.TheLaws as heap
use Rattle.std_heap.proofs.GlobalToken.{dealloc_token-Testable}
use Rattle.nc_host_handles.specs.contracts.parts.Parts as Parts
use Rattle.nc_host_handles.specs.machinery.Pointer.{pointer_owns}

-- ---- a function that uses up its one parameter, an `x` of `From`, and answers a `To` of which `P x` holds. Of the parameter there is no last value
module _ (From To : RattleType) (P : From.Denot → To.Denot → Type 0) (last : (x : From.Denot) → Last (From.exit yes) x) where
  abbrev pub ended : Ended
  ended = record { signature = record { lifetimes = 0; outlives = []; params = plain (λ _. From) ∷ []; result = plain (λ _. To) }; kept = (yes, tt) }

  abbrev stayed : Stays ended.signature.params ended.kept
  stayed = (stay_dropped (plain (λ _. From)) yes, tt)

  module _ {M : Type 1} {𝓤 : Ura M} where
    abbrev pub clauses : Clauses 𝓤 ended
    clauses = λ κs a. record { ghost = Unit {0}; requires = λ _. emp 𝓤; ensures = λ _ r _. fact 𝓤 (P a.0 r) }

    -- what its code does
    abbrev pub Runs : (𝓛 : Logic 𝓤) → Tables 𝓤 𝓛.H → Fn → Type 2
    Runs 𝓛 𝓣 fn = (x : From.Denot) (us : List Val) (Q : Val → SProp 𝓤)
        → ((r : To.Denot) (w : Val) → P x r → ent 𝓤 (sem 𝓛 (To.own_val r (w ∷ []))) (Q w))
        → ent 𝓤 (sem 𝓛 (From.own_val x us)) (WpFn 𝓤 𝓛.H 𝓣.C 𝓣.Λ fn (us ++ []) Q)

    walk : (𝓛 : Logic 𝓤) (𝓣 : Tables 𝓤 𝓛.H) (fn : Fn) → Runs 𝓛 𝓣 fn → (z : (walk_of 𝓛 ended stayed clauses).Ghost)
        → ent 𝓤 ((walk_of 𝓛 ended stayed clauses).pre z) (WpFn 𝓤 𝓛.H 𝓣.C 𝓣.Λ fn (z.0.4.0 ++ []) ((walk_of 𝓛 ended stayed clauses).post z))
    walk 𝓛 𝓣 fn runs z =
        qed 𝓛 ((‵ ftrue ⊛ ‵ (fsep (From.own_val z.0.3.0 z.0.4.0) ftrue)) ∷ raw (emp 𝓤) ∷ []) ∵ split ! $ drop ! $ fsplit ! $ move ! (1 ∷ 2 ∷ []) $ drop ! $ drop ! $
        by ! (runs z.0.3.0 z.0.4.0 ((walk_of 𝓛 ended stayed clauses).post z) (λ r w p.
        qed 𝓛 (‵ (To.own_val r (w ∷ [])) ∷ []) ∵ suffices ! _ (ends_at 𝓛 ended stayed clauses z w r (last z.0.3.0, tt) (tt, tt)) $ says ! p $
        nothing ! $ nothing ! $ fjoin ! $ join ! $ nothing ! $ join ! $ done !))

  pub meets : ((x : From.Denot) (f : Last (From.exit yes) x) → left (From.exit yes) x f ≡ ftrue)
      → {M : Type 1} (𝓤 : Ura M) (𝓛 : Logic 𝓤) (𝓜 : Model 𝓤 𝓛.H) (𝓡 : Running 𝓤 𝓛.H 𝓜) (name : Callee) (fn : Fn)
      → Closed 𝓤 𝓛.H (tables 𝓤 𝓛.H 𝓜 𝓡 𝓡.env).C (tables 𝓤 𝓛.H 𝓜 𝓡 𝓡.env).Λ name fn
      → ((𝓣 : Tables 𝓤 𝓛.H) → Runs 𝓛 𝓣 fn) → Meets 𝓛 ended.signature (𝓡.run (𝓡.env name)) (closing 𝓛 ended clauses)
  unfolding tables_of
  meets silent 𝓤 𝓛 𝓜 𝓡 name fn closed runs =
      let 𝓣 : Tables 𝓤 𝓛.H = tables_of 𝓤 𝓛.H 𝓜 (tables 𝓤 𝓛.H 𝓜 𝓡 𝓡.env) in
      entered 𝓤 𝓛.H (triple_of 𝓛 ended.signature (closing 𝓛 ended clauses)) 𝓣.C 𝓣.Λ name fn closed
      (walk_Meets 𝓛 ended stayed (Goes-dropped 𝓛 0 (plain (λ _. From)) yes (λ κs. silent), tt) clauses (WpFn 𝓤 𝓛.H 𝓣.C 𝓣.Λ fn) (WpFn-mono 𝓤 𝓛.H 𝓛.laws 𝓣 fn)
      (walk 𝓛 𝓣 fn (runs 𝓣)))

-- ---- a pointer to a value of the type `X`
abbrev pub global : Al
global = record { row = Heap.the_row; laws = heap.the_row_laws; g = ghosts; d = dict; drops = impl [] tnil dnil }

module _ (X : RattleType) (L : Laws X) (ν : Sym) where
  abbrev E : Bx
  E = record { row = X; laws = L; al = global }

  abbrev pub PartsOf : RattleType
  PartsOf = Parts.the_row (R E) Heap.the_row ghosts

  abbrev pub MaybeParts : RattleType
  MaybeParts = Option'.the_row PartsOf

  abbrev shape : Shape
  shape = record { name = ν; args = []; types = []; fields = RawPtr ∷ Heap.the_row ∷ [] }

  abbrev pub own : Ptr → Global → Option X.Denot → List Val → Fml
  own at alloc value vs = fsep ((Struct shape).own_val (at, (alloc, tt)) vs) (pointer_owns (R E) alloc at value)

  abbrev pointer_ty : Ty
  pointer_ty = ty_struct ν (tcons ty_ptr (tcons (α global) tnil))

  -- `nothing` writes a null pointer, which owns nothing
  abbrev pub nothing_code : Fn
  nothing_code = record {
    lifetimes = 0;
    outlives = [];
    ty_params = [];
    givens = 0;
    params = 1;
    locals = local pointer_ty value_local ∷ local (α global) value_local ∷ [];
    body = seq (assign (place 0 []) (aggregate (int w64 0 ∷ copy (place 1 []) ∷ []))) return;
  }

  -- `of_parts` moves two fields, and what they own goes with them
  abbrev pub of_parts_code : Fn
  of_parts_code = record {
    lifetimes = 0;
    outlives = [];
    ty_params = [];
    givens = 0;
    params = 1;
    locals = local pointer_ty value_local ∷ local (layout PartsOf) value_local ∷ local ty_ptr value_local ∷ local (α global) value_local
        ∷ local ty_ptr value_local ∷ [];
    body = seq (assign (place 2 []) (rv_opd (copy (place 1 (field 0 ∷ []))))) (seq (assign (place 3 []) (rv_opd (copy (place 1 (field 1 ∷ [])))))
        (seq (assign (place 4 []) (rv_opd (copy (place 2 [])))) (seq (assign (place 0 []) (aggregate (copy (place 4 []) ∷ copy (place 3 []) ∷ []))) return)));
  }

  -- `into_parts` tests the pointer: null owns nothing, and what another owns goes with it
  abbrev into_parts_end : Body
  into_parts_end = seq (assign (place 0 []) (rv_opd (copy (place 5 [])))) return

  abbrev pub into_parts_code : Fn
  into_parts_code = record {
    lifetimes = 0;
    outlives = [];
    ty_params = [];
    givens = 0;
    params = 1;
    locals = local (layout MaybeParts) value_local ∷ local pointer_ty value_local ∷ local ty_ptr value_local ∷ local (α global) value_local
        ∷ local ty_bool value_local ∷ local (layout MaybeParts) value_local ∷ local ty_ptr value_local ∷ local (layout PartsOf) value_local ∷ [];
    body = seq (assign (place 2 []) (rv_opd (copy (place 1 (field 0 ∷ []))))) (seq (assign (place 3 []) (rv_opd (copy (place 1 (field 1 ∷ [])))))
        (seq (assign (place 4 []) (op2 ptr_eq (copy (place 2 [])) (int w64 0)))
        (seq (cond (copy (place 4 [])) (assign (place 5 []) (aggregate (int w8 0 ∷ [])))
        (seq (assign (place 6 []) (rv_opd (copy (place 2 [])))) (seq (assign (place 7 []) (aggregate (copy (place 6 []) ∷ copy (place 3 []) ∷ [])))
        (assign (place 5 []) (aggregate (int w8 1 ∷ copy (place 7 []) ∷ []))))))
        into_parts_end)));
  }

  module _ {M : Type 1} {𝓤 : Ura M} (𝓛 : Logic 𝓤) (𝓣 : Tables 𝓤 𝓛.H) (us : List Val) (Q : Val → SProp 𝓤) where
    open 𝓛 use {H}

    pub nothing_runs : (a : Global) → ((w : Val) → ent 𝓤 (sem 𝓛 (own null_ptr a None (w ∷ []))) (Q w))
        → ent 𝓤 (sem 𝓛 (Heap.the_row.own_val a us)) (WpFn 𝓤 H 𝓣.C 𝓣.Λ nothing_code (us ++ []) Q)
    nothing_runs a k =
        qed 𝓛 (‵ (Heap.the_row.own_val a us) ∷ []) ∵
        handle_tells global ! a us (λ hv ws fa.
        let w : Val = vstruct (vcons vnull (vcons hv vnil)) in
        feq_i ! Ptr null_ptr null_ptr refl $ move ! (1 ∷ 0 ∷ []) $ nothing ! $ move ! (1 ∷ 0 ∷ []) $ fjoin ! $
        feq_i ! (List Val) (vnull ∷ []) (ptr_val null_ptr ∷ []) refl $ fjoin ! $
        feq_i ! (List Val) (w ∷ []) (w ∷ []) refl $ fjoin ! $
        fpack ! (Valss (RawPtr ∷ Heap.the_row ∷ [])) (within shape (null_ptr, (a, tt)) (w ∷ [])) (vnull ∷ [], (hv ∷ [], tt)) $ move ! (0 ∷ 1 ∷ []) $ fjoin ! $
        let Γ : List (Item 𝓤) = ‵ (own null_ptr a None (w ∷ [])) ∷ [] in
        by ! (subst (λ (us : List Val). ent 𝓤 (types.Kit.⋆ 𝓛 Γ) (WpFn 𝓤 H 𝓣.C 𝓣.Λ nothing_code (us ++ []) Q)) (sym ws)
        (qed 𝓛 Γ ∵ enter ! 𝓣.C 𝓣.Λ nothing_code (hv ∷ []) _ $ alloc_all ! (λ ls. pass_all ! refl (fa, tt) $
        sets ! (agg ! (and_then ! (lit ! tt) (and_then ! (get ! refl) (no_more !)))) refl (and_tt (has_ty (α global) hv) fa.0, (record { fits = lit< tt }, (fa.1, tt))) $ returns ! (look_at ! 0 refl) $ free_all ! refl $
        by ! (k w)))))

    pub of_parts_runs : (d : D E) → ((w : Val) → ent 𝓤 (sem 𝓛 (own d.ptr d.alloc (Some d.value) (w ∷ []))) (Q w))
        → ent 𝓤 (sem 𝓛 ((B E).own_val d us)) (WpFn 𝓤 H 𝓣.C 𝓣.Λ of_parts_code (us ++ []) Q)
    of_parts_runs d k =
        qed 𝓛 (‵ ((B E).own_val d us) ∷ []) ∵
        box_out E ! d us (λ b o hv e ws fa. box_in E ! d b o d.value e refl $ use1 𝓛 (‵ (own d.ptr d.alloc (Some d.value) (word E hv b o ∷ []))) (id⊢ 𝓤 _) $
        let w = word E hv b o in
        let Γ : List (Item 𝓤) = ‵ (own d.ptr d.alloc (Some d.value) (w ∷ [])) ∷ [] in
        by ! (subst (λ (us : List Val). ent 𝓤 (types.Kit.⋆ 𝓛 Γ) (WpFn 𝓤 H 𝓣.C 𝓣.Λ of_parts_code (us ++ []) Q)) (sym ws)
        (qed 𝓛 Γ ∵ enter ! 𝓣.C 𝓣.Λ of_parts_code (w ∷ []) _ $ alloc_all ! (λ ls. pass_all ! refl (box_typed E hv b o fa, tt) $
        sets ! (of_opd ! (get_in ! (fld ! refl (stop !)) (sub ! 0 refl (whole !)))) refl (tt, tt) $ sets ! (of_opd ! (get_in ! (fld ! refl (stop !)) (sub ! 1 refl (whole !)))) refl fa $
        sets ! (of_opd ! (get ! refl)) refl (tt, tt) $
        sets ! (agg ! (and_then ! (get ! refl) (and_then ! (get ! refl) (no_more !)))) refl (box_typed E hv b o fa) $ returns ! (look_at ! 0 refl) $ free_all ! refl $
        by ! (k w)))))

    pub into_parts_runs : (at : Ptr) (a : Global) (value : Option X.Denot)
        → ((w : Val) → value ≡ None → ent 𝓤 (sem 𝓛 (MaybeParts.own_val None (w ∷ []))) (Q w))
        → ((parts : PartsOf.Denot) (w : Val) → value ≡ Some parts.value → ent 𝓤 (sem 𝓛 (MaybeParts.own_val (Some parts) (w ∷ []))) (Q w))
        → ent 𝓤 (sem 𝓛 (own at a value us)) (WpFn 𝓤 H 𝓣.C 𝓣.Λ into_parts_code (us ++ []) Q)
    into_parts_runs at a None none some =
        qed 𝓛 (‵ (own at a None us) ∷ []) ∵
        fsplit ! $ fpick ! (λ vss. fsplit ! $ feq_l ! (λ ev. fsplit ! $ feq_l ! (λ ep. fsplit ! $ handle_tells global ! a vss.1.0 (λ hv ea fa. drop ! $ drop ! $ feq_l ! (λ en.
        let w : Val = vstruct (vcons vnull (vcons hv vnil)) in
        let ws : us ≡ w ∷ [] =
        subst (λ (p : Ptr). us ≡ vstruct (of_list (ptr_val p ∷ hv ∷ [])) ∷ []) en
        (subst (λ (vs : List Val). us ≡ vstruct (of_list (ptr_val at ∷ (vs ++ []))) ∷ []) ea (subst (λ (ps : List Val). us ≡ vstruct (of_list (ps ++ (vss.1.0 ++ []))) ∷ []) ep ev)) in
        by ! (subst (λ (us : List Val). ent 𝓤 (types.Kit.⋆ 𝓛 []) (WpFn 𝓤 H 𝓣.C 𝓣.Λ into_parts_code (us ++ []) Q)) (sym ws)
        (qed 𝓛 [] ∵ enter ! 𝓣.C 𝓣.Λ into_parts_code (w ∷ []) _ $ alloc_all ! (λ ls. pass_all ! refl ((and_tt _ fa.0, (record { fits = lit< tt }, (fa.1, tt))), tt) $
        sets ! (of_opd ! (get_in ! (fld ! refl (stop !)) (sub ! 0 refl (whole !)))) refl (tt, record { fits = lit< tt }) $ sets ! (of_opd ! (get_in ! (fld ! refl (stop !)) (sub ! 1 refl (whole !)))) refl fa $
        sets ! (bin ! (get ! refl) (lit ! tt) tt) refl (tt, tt) $ first ! $ branches ! (get ! refl)
        (λ _. sets_last ! (agg ! (and_then ! (lit ! tt) (no_more !))) refl (tt, (record { fits = lit< tt }, tt)) $
        exec ! 𝓣.C 𝓣.Λ (env (into_parts_code).locals ls) into_parts_end (at_ret (env (into_parts_code).locals ls) Q) $
        sets ! (of_opd ! (get ! refl)) refl (tt, (record { fits = lit< tt }, tt)) $ returns ! (look_at ! 0 refl) $ free_all ! refl $
        use0 𝓛 (‵ (MaybeParts.own_val None (live 0 vnil ∷ []))) (none_of 𝓛 PartsOf) $ by ! (none (live 0 vnil) refl))
        (λ wrong. absurd wrong)))))))))
    into_parts_runs at a (Some x) none some =
        let v : D E = record { ptr = at; alloc = a; value = x } in
        let made : PartsOf.Denot = record { ptr = at; alloc = a; value = x } in
        qed 𝓛 (‵ (own at a (Some x) us) ∷ []) ∵
        use1 𝓛 (‵ ((B E).own_val v us)) (id⊢ 𝓤 _) $
        box_out E ! v us (λ b o hv e' ws fa. move ! (1 ∷ []) $
        use1 𝓛 (given (Testable (block_ptr b o)) (‵ (token global a (bare (τ E)) (block_ptr b o)))) (fact_use 𝓤 (Testable (block_ptr b o)) (dealloc_token-Testable 𝓛 a (bare (τ E)) (block_ptr b o))
        (λ t. guard_i 𝓤 (Testable (block_ptr b o)) (sem 𝓛 (token global a (bare (τ E)) (block_ptr b o))) t)) $ learn ! (λ t. move ! (1 ∷ []) $
        box_in E ! v b o v.value e' refl $ use1 𝓛 (‵ (PartsOf.own_val made (word E hv b o ∷ []))) (id⊢ 𝓤 _) $
        let w = word E hv b o in
        let v₁ : Val = live 1 (vcons w vnil) in
        let typed = box_typed E hv b o fa in
        let good : Good (layout MaybeParts) v₁ = (and_tt _ typed.0, (record { fits = lit< tt }, (typed.1, tt))) in
        let Γ : List (Item 𝓤) = ‵ (PartsOf.own_val made (w ∷ [])) ∷ [] in
        by ! (subst (λ (us : List Val). ent 𝓤 (types.Kit.⋆ 𝓛 Γ) (WpFn 𝓤 H 𝓣.C 𝓣.Λ into_parts_code (us ++ []) Q)) (sym ws)
        (qed 𝓛 Γ ∵ enter ! 𝓣.C 𝓣.Λ into_parts_code (w ∷ []) _ $ alloc_all ! (λ ls. pass_all ! refl (typed, tt) $
        sets ! (of_opd ! (get_in ! (fld ! refl (stop !)) (sub ! 0 refl (whole !)))) refl (tt, tt) $ sets ! (of_opd ! (get_in ! (fld ! refl (stop !)) (sub ! 1 refl (whole !)))) refl fa $
        sets ! (bin ! (get ! refl) (lit ! tt) (tests_null (block_ptr b o) t)) refl (tt, tt) $ first ! $ branches ! (get ! refl) (λ wrong. absurd wrong)
        (λ _. sets ! (of_opd ! (get ! refl)) refl (tt, tt) $
        sets ! (agg ! (and_then ! (get ! refl) (and_then ! (get ! refl) (no_more !)))) refl typed $
        sets_last ! (agg ! (and_then ! (lit ! tt) (and_then ! (get ! refl) (no_more !)))) refl good $
        exec ! 𝓣.C 𝓣.Λ (env (into_parts_code).locals ls) into_parts_end (at_ret (env (into_parts_code).locals ls) Q) $
        sets ! (of_opd ! (get ! refl)) refl good $ returns ! (look_at ! 0 refl) $ free_all ! refl $
        use1 𝓛 (‵ (MaybeParts.own_val (Some made) (v₁ ∷ []))) (Some-of 𝓛 PartsOf made w) $ by ! (some made v₁ refl)))))))
