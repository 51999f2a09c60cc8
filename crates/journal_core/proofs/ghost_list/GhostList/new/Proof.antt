-- `new` picks no item and no room. Assumes `Logic`.
use Rattle.journal_core.proofs.Walks.{◌≡◌, [], ◌∷◌, refl, proved, leaves, a_type, inst_fn, Val, SProp, tables, ‵, raw, ◌⊛◌, ◌$◌, ◌∵◌, !, qed, by, keep, split, join, fjoin, agg, enter, returns, no_more, and_then, alloc_all, pass_all, free_all, look_at, get, sets, param, layouts, RattleType, owns, types_at, nothing, alive, Stays, walk_of, list_val, made, known}
use Rattle.journal_core.specs.contracts.ghost_list.GhostList.{the_row}
use Rattle.journal_core.specs.contracts.ghost_list.GhostList.new.{ended, clauses}
use Rattle.journal_core.specs.contracts.ghost_list.GhostList.new.Key.{name as #self}
use Rattle.journal_core.proofs.ghost_list.GhostList.new.Statement.{statement}
use Rattle.journal_core.proofs.ghost_list.GhostList.new.Code as code

pub new_spec : {M : Type 1} → statement M
new_spec 𝓤 𝓛 𝓜 𝓡 wired T _ =
    let 𝓣 = tables 𝓤 𝓛.H 𝓜 𝓡 𝓡.env in let R : RattleType = param 0 T in let En = ended T in let c = clauses T 𝓛 𝓜.mem 𝓡.returns in
    let inst = layouts (a_type ∷ []) (T, tt) in let fn = inst_fn inst code.function in
    let hs : Stays En.signature.params En.kept = tt in
    proved 𝓛 En hs c 𝓜 𝓡 tt (#self inst) fn (code.unfolded 𝓤 𝓛.H 𝓜 𝓡 wired (T, tt)) (λ κs. tt) (λ κs. tt) (λ κs qs bounds a gh are.
    let r : (the_row R).Denot = record { marker = record {}; items = []; room = 0 } in
    let y : (walk_of 𝓛 En hs c).Ghost = ((κs, qs, bounds, a, tt), gh) in let Post : Val → SProp 𝓤 = (walk_of 𝓛 En hs c).post y in
    qed 𝓛 ((raw (alive 𝓛 En.signature κs qs) ⊛ ‵ (owns (types_at En.signature.params κs) a y.0.4)) ∷ raw ((c κs a).requires gh) ∷ []) ∵
    split ! $ keep ! (0 ∷ []) $ nothing ! $ made ! R $ fjoin ! $
    enter ! 𝓣.C 𝓣.Λ fn [] Post $ alloc_all ! (λ l. pass_all ! refl tt $
    sets ! (agg ! (no_more !)) refl (tt, tt) $ sets ! (agg ! (and_then ! (get ! refl) (no_more !))) refl (tt, (tt, tt)) $
    known ! (r.room ≡ 0) refl $ known ! (r.items ≡ []) refl $ join ! $ nothing ! $
    returns ! (look_at ! 0 refl) $ free_all ! refl $ keep ! (3 ∷ 0 ∷ 2 ∷ 1 ∷ []) $ by ! (leaves 𝓛 En hs c y list_val r tt tt)))
