-- `new` puts the value under the rule that its region is the first one. Assumes `Logic`.
use Rattle.std.proofs.Common.{◌≡◌, List, [], ◌∷◌, ◌++◌, ap, refl, Some}
use mir.Syntax.{dcons, dnil, impl, tnil, ty_struct, a_type}
use mir.Val.{Val, vstruct, vcons, vnil}
use mir.MapTy.{inst_fn}
use base.Share
use base.Logic.{SProp, emp, id⊢}
use base.Fml.{Lft, Share, ftrue, fex, flft}
use prog.Wp.{WpFn}
use types.Kit.{‵, raw, ◌⊛◌, some, later, prop, ◌$◌, ◌∵◌, !, qed, by, move, keep}
use types.Kit.{use0, use1, use2, split, split3, join, fsplit, fjoin, fpack, pick, await, rewrite, regoal, feq_i}
use types.Run.{of_opd, and_then, no_more, returns, enter}
use types.Part.{agg}
use types.ByLocal.{alloc_all, pass_all, free_all, look_at, get, sets, lands_as}
use contract.Running.{tables}
use contract.BorrowLft.{◌⊑◌, ⊑_static}
use contract.Monad.{fact, fact_i}
use denote.Exit.{no}
use denote.RattleType.{RattleType, Valss, owns}
use denote.Signature.{types_at, plain}
use denote.Steps.{nothing, heard, only, peeks}
use denote.Laws.{Typed, shows}
use denote.Param.{param, layout, bounded, arg}
use denote.Param.Laws.{param_laws, arg_laws}
use denote.Struct.Struct.{as_fields, within}
use denote.Struct.Declared.{shape}
use denote.Triple.Entry.{alive}
use denote.Triple.Call.{calls_at}
use denote.Triple.Clauses.{Lasts, lasts}
use denote.Triple.Spec.{triple_of}
use denote.Triple.Table.{framed}
use denote.Triple.Walked.{Stays, stay_dropped, walk_of, Goes-dropped}
use Rattle.nc_region.proofs.Locking.{one}
use Rattle.std.proofs.raw_atomic.Walks.{proved_at, leaves}
use Rattle.std.specs.contracts.marker.Brand as brand
use Rattle.std.proofs.marker.Brand.TheLaws as brand_laws
use Rattle.std.specs.contracts.sync.Mutex as mutex
use Rattle.std.proofs.sync.Mutex.TheLaws as mutex_laws
use Rattle.nc_region.specs.declared.lock.ruled.Rule as rule
use Rattle.nc_region.specs.contracts.lock.ruled.Ruled as inside
use Rattle.nc_region.proofs.lock.ruled.Ruled.TheLaws as inside_laws
use Rattle.nc_region.specs.contracts.lock.ruled.RuledLock as ruled
use Rattle.nc_region.specs.contracts.lock.Lock as lock
use Rattle.nc_region.specs.contracts.lock.mutex_under as under
use Rattle.nc_region.proofs.lock.mutex_under.Met.{met}
use Rattle.nc_region.specs.contracts.lock.Lock.new as F
use Rattle.nc_region.specs.contracts.lock.Lock.new.Key.{name as #self}
use Rattle.nc_region.proofs.lock.Lock.new.Statement.{statement}
use Rattle.nc_region.proofs.lock.Lock.new.Code as code

pub new_spec : {M : Type 1} → statement M
new_spec 𝓤 𝓛 𝓜 𝓡 wired T L g d met_T =
    let H = 𝓛.H in
    let R : RattleType = param 0 T in
    let K : RattleType = arg (ty_struct [] tnil) no brand.the_row in
    let 𝓣 = tables 𝓤 H 𝓜 𝓡 𝓡.env in
    let En = F.ended T g d in
    let c = F.clauses T g d 𝓛 𝓜.mem 𝓡.returns in
    let inst = bounded (a_type ∷ []) (T, tt) (dcons d dnil) in
    let fn = inst_fn inst code.function in
    let hs : Stays En.signature.params En.kept = (stay_dropped (plain (λ _. R)) no, tt) in
    proved_at 𝓛 En hs c 𝓜 𝓡 (Goes-dropped 𝓛 1 (plain (λ _. R)) no (λ κs x f. refl), tt) (#self inst) fn
    (code.unfolded 𝓤 H 𝓜 𝓡 wired (T, tt) d) (λ y are.
    let κ : Lft = y.0.0.0 in
    let q : Share = y.0.1.0 in
    let x : T.Denot = y.0.3.0 in
    let us : List Val = y.0.4.0 in
    let k : rule.Ghosts K.Denot = record { first = Some (g.region x); one = record {}; only = λ _ _. refl } in
    let dk = impl [] tnil dnil in
    let Post : Val → SProp 𝓤 = (walk_of 𝓛 En hs c).post y in
    let got = one (layout T) us (((param_laws 0 T L).lawful 𝓛).typed x us are.0) in
    let w : Val = got.0 in
    qed 𝓛 (((‵ (flft κ q) ⊛ ‵ ftrue) ⊛ ‵ (owns (types_at En.signature.params y.0.0) y.0.3 y.0.4)) ∷ raw (fact 𝓤 (κ ⊑ T.lives))
    ∷ raw (emp 𝓤) ∷ []) ∵
    keep ! (1 ∷ 0 ∷ []) $ heard ! (κ ⊑ T.lives) (λ inner. split ! $ split ! $ keep ! (2 ∷ 0 ∷ []) $ fsplit ! $ keep ! (0 ∷ 2 ∷ []) $
    rewrite ! 0 (λ (vs : List Val). ‵ (R.own_val x vs)) got.1 refl $
    regoal ! (λ (vs : List Val). prop (WpFn 𝓤 H 𝓣.C 𝓣.Λ fn vs Post)) (λ i. got.1 i ++ []) refl $
    enter ! 𝓣.C 𝓣.Λ fn (w ∷ []) Post $ alloc_all ! (λ l. pass_all ! refl (got.2, tt) $
    sets ! (of_opd ! (get ! refl)) refl got.2 $
    -- [the value; the token]
    move ! (1 ∷ []) $ use1 𝓛 (‵ (flft κ (Share.left q)) ⊛ ‵ (flft κ (Share.right q))) (𝓛.lfts.lft_split κ q) $ split ! $
    nothing ! $ move ! (2 ∷ 0 ∷ []) $ join ! $ move ! (1 ∷ 0 ∷ []) $ join ! $
    nothing ! $ move ! (2 ∷ 0 ∷ []) $ join ! $ move ! (1 ∷ 0 ∷ []) $ join ! $
    use0 𝓛 (raw (fact 𝓤 (k.first ≡ Some (g.region x)))) (fact_i 𝓤 (k.first ≡ Some (g.region x)) (emp 𝓤) refl) $
    use0 𝓛 (raw (fact 𝓤 (κ ⊑ K.lives))) (fact_i 𝓤 (κ ⊑ K.lives) (emp 𝓤) (⊑_static κ)) $ join ! $
    use0 𝓛 (raw (fact 𝓤 (κ ⊑ T.lives))) (fact_i 𝓤 (κ ⊑ T.lives) (emp 𝓤) inner) $ join ! $
    let G = triple_of 𝓛 (under.signature T K g d k dk) (under.spec T K g d k dk 𝓛 𝓜.mem 𝓡.returns) in
    let z : G.Ghost = (((κ, (κ, tt)), (Share.left q, (Share.right q, tt)), tt, (x, tt), (w ∷ [], tt)), tt) in
    move ! (1 ∷ 0 ∷ []) $ use2 𝓛 (raw (G.pre z)) (id⊢ 𝓤 _) $
    calls_at ! (framed 𝓤 H 𝓜 𝓣) G
    (met 𝓤 𝓛 𝓜 𝓡 (code.calls-nc_region::lock::mutex_under 𝓡.env wired)
    T K L (arg_laws (ty_struct [] tnil) no brand.the_row brand_laws.the_row_laws refl) g d k dk met_T (record {})) z
    (and_then ! (get ! refl) (no_more !)) (λ v.
    use1 𝓛 (later (some (λ (r : (mutex.the_row (inside.the_row R (param 1 K) g k)).Denot).
    ((‵ (flft κ (Share.left q)) ⊛ ‵ (flft κ (Share.right q)) ⊛ ‵ ftrue)
    ⊛ ‵ ((mutex.the_row (inside.the_row R (param 1 K) g k)).own_val r (v ∷ []))) ⊛
    some (λ (ws : Lasts (under.ended T K g d k dk) (κ, (κ, tt)) (x, tt)).
    ‵ (lasts (under.ended T K g d k dk) (κ, (κ, tt)) (x, tt) ws) ⊛ raw (emp 𝓤))))) (id⊢ 𝓤 _) $
    await ! tt $ pick ! (λ r. split ! $ split ! $ split3 ! $
    -- [the token's halves; the end of the tokens; the lock; what is left of the argument]
    use2 𝓛 (‵ (flft κ q)) (𝓛.lfts.lft_join κ q) $ join ! $ move ! (1 ∷ []) $
    let Mx : RattleType = mutex.the_row (inside.the_row R (param 1 K) g k) in
    peeks ! Mx _ (shows 𝓛 Mx) r (v ∷ []) (λ is.
    let L_K = arg_laws (ty_struct [] tnil) no brand.the_row brand_laws.the_row_laws refl in
    let lawful = mutex_laws.the_row_laws (inside.the_row R (param 1 K) g k)
    (inside_laws.the_row_laws R (param 1 K) g k (param_laws 0 T L) (param_laws 1 K L_K)) in
    let fits = one (layout Mx) (v ∷ []) ((lawful.lawful 𝓛).typed r (v ∷ []) is) in
    let u : Val = fits.0 in
    let s : Val = vstruct (vcons u vnil) in
    let s-typed = as_fields (layout Mx ∷ []) (u ∷ []) (fits.2, tt) in
    lands_as ! (ap only fits.1) refl fits.2 $ rewrite ! 0 (λ (vs : List Val). ‵ (Mx.own_val r vs)) fits.1 refl $
    sets ! (agg ! (and_then ! (get ! refl) (no_more !))) refl s-typed $
    nothing ! $ move ! (1 ∷ 0 ∷ []) $ fjoin ! $ feq_i ! (List Val) (s ∷ []) (s ∷ []) refl $ fjoin ! $
    fpack ! (Valss (Mx ∷ [])) (within (shape (ruled.the_type R K g k)) (tt, tt) (s ∷ [])) (u ∷ [], tt) $
    let Row : RattleType = lock.the_row R g in
    let fact-typed : Type 0 = Typed Row.mir (s ∷ []) in
    use0 𝓛 (‵ (fex fact-typed (λ _. ftrue))) (fact_i 𝓤 fact-typed (emp 𝓤) (s-typed, tt)) $ fjoin ! $
    use0 𝓛 (raw (fact 𝓤 (g.region x ≡ g.region x))) (fact_i 𝓤 (g.region x ≡ g.region x) (emp 𝓤) refl) $
    nothing ! $ nothing ! $ fjoin ! $
    returns ! (look_at ! 0 refl) $ free_all ! refl $ keep ! (3 ∷ 0 ∷ 2 ∷ 1 ∷ []) $
    use1 𝓛 (raw (alive 𝓛 En.signature y.0.0 y.0.1)) (id⊢ 𝓤 _) $ move ! (2 ∷ []) $
    use1 𝓛 (‵ (Row.own_val (g.region x) (s ∷ []))) (id⊢ 𝓤 _) $ move ! (1 ∷ 2 ∷ []) $
    by ! (leaves 𝓛 En hs c y s (g.region x) (tt, tt) (tt, tt))))))))
