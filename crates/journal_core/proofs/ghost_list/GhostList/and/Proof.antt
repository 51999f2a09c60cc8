-- `and` picks the list with the item at its end, and one less of the room. Assumes `Logic`.
use Rattle.journal_core.proofs.Walks.{◌≡◌, ◌-◌, [], ◌∷◌, ◌++◌, refl, proved, leaves, a_type, named, inst_fn, Val, vptr, SProp, tables, ‵, raw, ◌⊛◌, ◌$◌, ◌∵◌, !, qed, by, keep, split, join, fjoin, agg, enter, returns, no_more, and_then, alloc_all, pass_all, free_all, look_at, get, sets, RefOf, yes, param, layouts, RattleType, owns, shr_vals, shr_Tells, plain, types_at, nothing, alive, Stays, walk_of, stay_dropped, Goes-dropped, list_val, made, known}
use Rattle.journal_core.specs.contracts.ghost_list.GhostList.{the_row}
use Rattle.journal_core.specs.contracts.ghost_list.GhostList.and.{ended, clauses}
use Rattle.journal_core.specs.contracts.ghost_list.GhostList.and.Key.{name as #self}
use Rattle.journal_core.proofs.ghost_list.GhostList.and.Statement.{statement}
use Rattle.journal_core.proofs.ghost_list.GhostList.and.Code as code

pub and_spec : {M : Type 1} → statement M
and_spec 𝓤 𝓛 𝓜 𝓡 wired T _ =
    let 𝓣 = tables 𝓤 𝓛.H 𝓜 𝓡 𝓡.env in let R : RattleType = param 0 T in let En = ended T in let c = clauses T 𝓛 𝓜.mem 𝓡.returns in
    let inst = layouts (a_type ∷ []) (T, tt) in let fn = inst_fn inst code.function in
    let self = RefOf (0 ∷ []) tt (plain (λ _. the_row R)) (λ _. tt) in let item = RefOf (1 ∷ []) tt (plain (λ _. R)) (λ _. tt) in
    let hs : Stays En.signature.params En.kept = (stay_dropped self yes, (stay_dropped item yes, tt)) in
    proved 𝓛 En hs c 𝓜 𝓡 (Goes-dropped 𝓛 3 self yes (λ κs x f. refl), (Goes-dropped 𝓛 3 item yes (λ κs x f. refl), tt)) (#self inst) fn (code.unfolded 𝓤 𝓛.H 𝓜 𝓡 wired (T, tt))
    (λ κs. (shr_vals, (shr_vals, tt))) (λ κs. (shr_Tells (named 0) κs.0 (the_row R), (shr_Tells (named 1) κs.1.0 R, tt))) (λ κs qs bounds a gh are.
    let old = a.0.now in let u : Val = vptr a.0.ref_ptr.0 a.0.ref_ptr.1 in let v : Val = vptr a.1.0.ref_ptr.0 a.1.0.ref_ptr.1 in
    let r : (the_row R).Denot = record { marker = record {}; items = old.items ++ a.1.0.now ∷ []; room = old.room - 1 } in
    let y : (walk_of 𝓛 En hs c).Ghost = ((κs, qs, bounds, a, (u ∷ [], (v ∷ [], tt))), gh) in let Post : Val → SProp 𝓤 = (walk_of 𝓛 En hs c).post y in
    qed 𝓛 ((raw (alive 𝓛 En.signature κs qs) ⊛ ‵ (owns (types_at En.signature.params κs) a y.0.4)) ∷ raw ((c κs a).requires gh) ∷ []) ∵
    split ! $ keep ! (0 ∷ []) $ nothing ! $ made ! R $ fjoin ! $
    enter ! 𝓣.C 𝓣.Λ fn (u ∷ v ∷ []) Post $ alloc_all ! (λ l. pass_all ! refl ((tt, tt), ((tt, tt), tt)) $
    sets ! (agg ! (no_more !)) refl (tt, tt) $ sets ! (agg ! (and_then ! (get ! refl) (no_more !))) refl (tt, (tt, tt)) $
    known ! (r.room ≡ old.room - 1) refl $ known ! (r.items ≡ old.items ++ a.1.0.now ∷ []) refl $ join ! $
    nothing ! $ nothing ! $ fjoin ! $ nothing ! $ fjoin ! $
    returns ! (look_at ! 0 refl) $ free_all ! refl $ keep ! (3 ∷ 0 ∷ 2 ∷ 1 ∷ []) $ by ! (leaves 𝓛 En hs c y list_val r (tt, (tt, tt)) (tt, (tt, tt)))))
