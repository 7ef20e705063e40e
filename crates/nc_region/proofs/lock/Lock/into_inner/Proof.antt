-- `into_inner` takes the value out of the lock under its rule. Assumes `Logic`.
use Rattle.std.proofs.Common.{◌≡◌, List, [], ◌∷◌, ◌++◌, ap, ◌∙◌, refl, Some}
use mir.Syntax.{dcons, dnil, impl, tnil, ty_struct, a_type}
use mir.Val.{Val, vstruct, vcons, vnil, of_list}
use mir.MapTy.{inst_fn}
use base.Share
use base.Logic.{SProp, emp, id⊢}
use base.Fml.{Lft, Share, ftrue, flft}
use prog.Wp.{WpFn}
use types.Kit.{‵, raw, ◌⊛◌, some, later, prop, ◌$◌, ◌∵◌, !, qed, by, move, keep}
use types.Kit.{use0, use1, use2, split, split3, join, fsplit, fjoin, pick, await, rewrite, regoal, feq_l, fpick}
use types.Run.{stop, fld, of_opd, and_then, no_more, returns, enter}
use types.Part.{sub, whole}
use types.ByLocal.{alloc_all, pass_all, free_all, look_at, get, get_in, sets, lands_as}
use contract.Running.{tables}
use contract.BorrowLft.{◌⊑◌, ⊑_static}
use contract.Monad.{fact, fact_i}
use denote.Exit.{no}
use denote.RattleType.{RattleType, owns}
use denote.Signature.{types_at, plain}
use denote.Steps.{nothing, heard, only, peeks}
use denote.Laws.{shows}
use denote.Param.{param, layout, bounded, arg}
use denote.Param.Laws.{param_laws, arg_laws}
use denote.Struct.Struct.{as_fields}
use denote.Triple.Call.{calls_at}
use denote.Triple.Clauses.{Lasts, lasts}
use denote.Triple.Spec.{triple_of}
use denote.Triple.Table.{framed}
use denote.Triple.Walked.{Stays, stay_dropped, walk_of, Goes-dropped}
use Rattle.nc_region.proofs.Locking.{one}
use Rattle.std.proofs.raw_atomic.Walks.{proved_at, leaves}
use Rattle.std.specs.contracts.marker.Brand as brand
use Rattle.std.proofs.marker.Brand.TheLaws as brand_laws
use Rattle.std.specs.contracts.sync.Mutex as mutex
use Rattle.std.proofs.sync.Mutex.TheLaws as mutex_laws
use Rattle.nc_region.specs.declared.lock.ruled.Rule as rule
use Rattle.nc_region.specs.contracts.lock.ruled.Ruled as inside
use Rattle.nc_region.proofs.lock.ruled.Ruled.TheLaws as inside_laws
use Rattle.nc_region.specs.contracts.lock.Lock as lock
use Rattle.nc_region.specs.contracts.lock.out_of as out
use Rattle.nc_region.proofs.lock.out_of.Met.{met}
use Rattle.nc_region.specs.contracts.lock.Lock.into_inner as F
use Rattle.nc_region.specs.contracts.lock.Lock.into_inner.Key.{name as #self}
use Rattle.nc_region.proofs.lock.Lock.into_inner.Statement.{statement}
use Rattle.nc_region.proofs.lock.Lock.into_inner.Code as code

pub into_inner_spec : {M : Type 1} → statement M
into_inner_spec 𝓤 𝓛 𝓜 𝓡 wired T L g d met_T =
    let H = 𝓛.H in
    let R : RattleType = param 0 T in
    let K : RattleType = arg (ty_struct [] tnil) no brand.the_row in
    let 𝓣 = tables 𝓤 H 𝓜 𝓡 𝓡.env in
    let En = F.ended T g d in
    let c = F.clauses T g d 𝓛 𝓜.mem 𝓡.returns in
    let inst = bounded (a_type ∷ []) (T, tt) (dcons d dnil) in
    let fn = inst_fn inst code.function in
    let Row : RattleType = lock.the_row R g in
    let hs : Stays En.signature.params En.kept = (stay_dropped (plain (λ _. Row)) no, tt) in
    proved_at 𝓛 En hs c 𝓜 𝓡 (Goes-dropped 𝓛 1 (plain (λ _. Row)) no (λ κs x f. refl), tt) (#self inst) fn
    (code.unfolded 𝓤 H 𝓜 𝓡 wired (T, tt) d) (λ y are.
    let κ : Lft = y.0.0.0 in
    let q : Share = y.0.1.0 in
    let us : List Val = y.0.4.0 in
    let k : rule.Ghosts K.Denot = record { first = Some y.0.3.0; one = record {}; only = λ _ _. refl } in
    let dk = impl [] tnil dnil in
    let Post : Val → SProp 𝓤 = (walk_of 𝓛 En hs c).post y in
    let L_K = arg_laws (ty_struct [] tnil) no brand.the_row brand_laws.the_row_laws refl in
    let Mx : RattleType = mutex.the_row (inside.the_row R (param 1 K) g k) in
    let lawful = mutex_laws.the_row_laws (inside.the_row R (param 1 K) g k)
    (inside_laws.the_row_laws R (param 1 K) g k (param_laws 0 T L) (param_laws 1 K L_K)) in
    qed 𝓛 (((‵ (flft κ q) ⊛ ‵ ftrue) ⊛ ‵ (owns (types_at En.signature.params y.0.0) y.0.3 y.0.4)) ∷ raw (fact 𝓤 (κ ⊑ T.lives))
    ∷ raw (emp 𝓤) ∷ []) ∵
    keep ! (1 ∷ 0 ∷ []) $ heard ! (κ ⊑ T.lives) (λ inner. split ! $ split ! $ keep ! (2 ∷ 0 ∷ []) $ fsplit ! $ keep ! (0 ∷ 2 ∷ []) $
    fsplit ! $ keep ! (1 ∷ 2 ∷ []) $ fpick ! (λ vss. fsplit ! $ feq_l ! (λ is-struct. fsplit ! $ keep ! (0 ∷ 2 ∷ []) $
    peeks ! Mx _ (shows 𝓛 Mx) tt vss.0 (λ is.
    let got = one (layout Mx) vss.0 ((lawful.lawful 𝓛).typed tt vss.0 is) in
    let w : Val = got.0 in
    let s : Val = vstruct (vcons w vnil) in
    let same : us ≡ s ∷ [] = is-struct ∙ ap (λ (ws : List Val). vstruct (of_list (ws ++ [])) ∷ []) got.1 in
    rewrite ! 0 (λ (vs : List Val). ‵ (Mx.own_val tt vs)) got.1 refl $
    regoal ! (λ (vs : List Val). prop (WpFn 𝓤 H 𝓣.C 𝓣.Λ fn vs Post)) (λ i. same i ++ []) refl $
    enter ! 𝓣.C 𝓣.Λ fn (s ∷ []) Post $ alloc_all ! (λ l. pass_all ! refl (as_fields (layout Mx ∷ []) (w ∷ []) (got.2, tt), tt) $
    sets ! (of_opd ! (get_in ! (fld ! refl (stop !)) (sub ! 0 refl (whole !)))) refl got.2 $
    sets ! (of_opd ! (get ! refl)) refl got.2 $
    -- [the lock; the token]
    move ! (1 ∷ []) $ use1 𝓛 (‵ (flft κ (Share.left q)) ⊛ ‵ (flft κ (Share.right q))) (𝓛.lfts.lft_split κ q) $ split ! $
    nothing ! $ move ! (2 ∷ 0 ∷ []) $ join ! $ move ! (1 ∷ 0 ∷ []) $ join ! $
    nothing ! $ move ! (2 ∷ 0 ∷ []) $ join ! $ move ! (1 ∷ 0 ∷ []) $ join ! $
    use0 𝓛 (raw (emp 𝓤)) (id⊢ 𝓤 (emp 𝓤)) $
    use0 𝓛 (raw (fact 𝓤 (κ ⊑ K.lives))) (fact_i 𝓤 (κ ⊑ K.lives) (emp 𝓤) (⊑_static κ)) $ join ! $
    use0 𝓛 (raw (fact 𝓤 (κ ⊑ T.lives))) (fact_i 𝓤 (κ ⊑ T.lives) (emp 𝓤) inner) $ join ! $
    let G = triple_of 𝓛 (out.signature T K g d k dk) (out.spec T K g d k dk 𝓛 𝓜.mem 𝓡.returns) in
    let z : G.Ghost = (((κ, (κ, tt)), (Share.left q, (Share.right q, tt)), tt, (tt, tt), (w ∷ [], tt)), tt) in
    move ! (1 ∷ 0 ∷ []) $ use2 𝓛 (raw (G.pre z)) (id⊢ 𝓤 _) $
    calls_at ! (framed 𝓤 H 𝓜 𝓣) G
    (met 𝓤 𝓛 𝓜 𝓡 (code.calls-nc_region::lock::out_of 𝓡.env wired) T K L L_K g d k dk met_T (record {})) z
    (and_then ! (get ! refl) (no_more !)) (λ v.
    use1 𝓛 (later (some (λ (r : R.Denot). ((‵ (flft κ (Share.left q)) ⊛ ‵ (flft κ (Share.right q)) ⊛ ‵ ftrue) ⊛ ‵ (R.own_val r (v ∷ []))) ⊛
    some (λ (ws : Lasts (out.ended T K g d k dk) (κ, (κ, tt)) (tt, tt)).
    ‵ (lasts (out.ended T K g d k dk) (κ, (κ, tt)) (tt, tt) ws) ⊛ raw (emp 𝓤))))) (id⊢ 𝓤 _) $
    await ! tt $ pick ! (λ r. split ! $ split ! $ split3 ! $
    -- [the token's halves; the end of the tokens; the value; what is left of the argument]
    use2 𝓛 (‵ (flft κ q)) (𝓛.lfts.lft_join κ q) $ join ! $ move ! (1 ∷ []) $
    peeks ! R _ (shows 𝓛 R) r (v ∷ []) (λ is'.
    let fits = one (layout T) (v ∷ []) (((param_laws 0 T L).lawful 𝓛).typed r (v ∷ []) is') in
    lands_as ! (ap only fits.1) refl fits.2 $ rewrite ! 0 (λ (vs : List Val). ‵ (R.own_val r vs)) fits.1 refl $
    use0 𝓛 (raw (emp 𝓤)) (id⊢ 𝓤 (emp 𝓤)) $ nothing ! $ nothing ! $ fjoin ! $
    returns ! (look_at ! 0 refl) $ free_all ! refl $ keep ! (3 ∷ 0 ∷ 2 ∷ 1 ∷ []) $
    by ! (leaves 𝓛 En hs c y fits.0 r (tt, tt) (tt, tt)))))))))))
