-- `with_room` picks the same items, and the room. Assumes `Logic`.
use Rattle.journal_core.proofs.Walks.{◌≡◌, [], ◌∷◌, refl, max, w64, proved, leaves, a_type, named, inst_fn, Val, vptr, vint, SProp, tables, ‵, raw, ◌⊛◌, ◌$◌, ◌∵◌, !, qed, by, keep, split, join, fjoin, agg, enter, returns, no_more, and_then, alloc_all, pass_all, free_all, look_at, get, sets, RefOf, usize, yes, param, layouts, uint_vals, uint_Tells, RattleType, owns, shr_vals, shr_Tells, plain, types_at, nothing, alive, Stays, walk_of, stay_dropped, Goes-dropped, list_val, made, known}
use Rattle.journal_core.specs.contracts.ghost_list.GhostList.{the_row}
use Rattle.journal_core.specs.contracts.ghost_list.GhostList.with_room.{ended, clauses}
use Rattle.journal_core.specs.contracts.ghost_list.GhostList.with_room.Key.{name as #self}
use Rattle.journal_core.proofs.ghost_list.GhostList.with_room.Statement.{statement}
use Rattle.journal_core.proofs.ghost_list.GhostList.with_room.Code as code

pub with_room_spec : {M : Type 1} → statement M
with_room_spec 𝓤 𝓛 𝓜 𝓡 wired T _ =
    let 𝓣 = tables 𝓤 𝓛.H 𝓜 𝓡 𝓡.env in let R : RattleType = param 0 T in let En = ended T in let c = clauses T 𝓛 𝓜.mem 𝓡.returns in
    let inst = layouts (a_type ∷ []) (T, tt) in let fn = inst_fn inst code.function in
    let self = RefOf (0 ∷ []) tt (plain (λ _. the_row R)) (λ _. tt) in let number = plain (λ _. usize) in
    let hs : Stays En.signature.params En.kept = (stay_dropped self yes, (stay_dropped number yes, tt)) in
    proved 𝓛 En hs c 𝓜 𝓡 (Goes-dropped 𝓛 2 self yes (λ κs x f. refl), (Goes-dropped 𝓛 2 number yes (λ κs x f. refl), tt)) (#self inst) fn (code.unfolded 𝓤 𝓛.H 𝓜 𝓡 wired (T, tt))
    (λ κs. (shr_vals, (uint_vals w64, tt))) (λ κs. (shr_Tells (named 0) κs.0 (the_row R), (uint_Tells w64, tt))) (λ κs qs bounds a gh are.
    let old = a.0.now in let u : Val = vptr a.0.ref_ptr.0 a.0.ref_ptr.1 in let v : Val = vint w64 a.1.0 in
    let r : (the_row R).Denot = record { marker = record {}; items = old.items; room = max old.room a.1.0 } in
    let y : (walk_of 𝓛 En hs c).Ghost = ((κs, qs, bounds, a, (u ∷ [], (v ∷ [], tt))), gh) in let Post : Val → SProp 𝓤 = (walk_of 𝓛 En hs c).post y in
    qed 𝓛 ((raw (alive 𝓛 En.signature κs qs) ⊛ ‵ (owns (types_at En.signature.params κs) a y.0.4)) ∷ raw ((c κs a).requires gh) ∷ []) ∵
    split ! $ keep ! (0 ∷ []) $ nothing ! $ made ! R $ fjoin ! $
    enter ! 𝓣.C 𝓣.Λ fn (u ∷ v ∷ []) Post $ alloc_all ! (λ l. pass_all ! refl ((tt, tt), ((tt, record { fits = are.1.0.1 }), tt)) $
    sets ! (agg ! (no_more !)) refl (tt, tt) $ sets ! (agg ! (and_then ! (get ! refl) (no_more !))) refl (tt, (tt, tt)) $
    known ! (r.room ≡ max old.room a.1.0) refl $ known ! (r.items ≡ old.items) refl $ join ! $
    nothing ! $ nothing ! $ fjoin ! $ nothing ! $ fjoin ! $
    returns ! (look_at ! 0 refl) $ free_all ! refl $ keep ! (3 ∷ 0 ∷ 2 ∷ 1 ∷ []) $ by ! (leaves 𝓛 En hs c y list_val r (tt, (tt, tt)) (tt, (tt, tt)))))
