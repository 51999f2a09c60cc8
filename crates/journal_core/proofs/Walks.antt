-- What the walks of `src/ghost_list.rt` share: the names of the logic, and the steps. Assumes `Logic`.
pub use Rattle.std.proofs.Common.{◌≡◌, ◌-◌, List, [], ◌∷◌, ◌++◌, refl, max, w64}
pub use Rattle.std.proofs.raw_atomic.Walks.{proved, leaves}
pub use mir.Syntax.{a_type, named}
pub use mir.MapTy.{inst_fn}
pub use mir.Val.{Val, vptr, vint, vstruct, vcons, vnil}
pub use base.Logic.{SProp, ent, emp}
pub use contract.Monad.{fact, fact_i}
pub use contract.Running.{tables}
pub use types.Kit.{Goal, Step, Item, ‵, raw, ◌⊛◌, ◌$◌, ◌∵◌, !, qed, by, keep, split, join, fjoin, use0}
pub use types.Logic.{Logic, sem}
pub use types.Part.{agg}
pub use types.Run.{enter, returns, no_more, and_then}
pub use types.ByLocal.{alloc_all, pass_all, free_all, look_at, get, sets}
pub use denote.Builtin.{RefOf, usize}
pub use denote.Exit.{yes}
pub use denote.Param.{param, layouts}
pub use denote.Plain.{uint_vals, uint_Tells}
pub use denote.RattleType.{RattleType, owns}
pub use denote.Ref.{shr_vals, shr_Tells}
pub use denote.Signature.{plain, types_at}
pub use denote.Steps.{nothing}
pub use denote.Triple.Entry.{alive}
pub use denote.Triple.Walked.{Stays, walk_of, stay_dropped, Goes-dropped}
use seplogic.Ra.Ura.{Ura}
use denote.Shadow.{makes_shadow}
use denote.Struct.Struct.{Struct}
use denote.Struct.Owning.{shape}
use Rattle.journal_core.specs.contracts.ghost_list.GhostList.{the_type}

-- a list as the machine has it: no byte
abbrev pub list_val : Val
list_val = vstruct (vcons (vstruct vnil) vnil)

module _ (T : RattleType) where
  abbrev pub Fields : RattleType
  Fields = Struct (shape (the_type T))

  fields_made : {M : Type 1} {𝓤 : Ura M} (𝓛 : Logic 𝓤) → ent 𝓤 (emp 𝓤) (sem 𝓛 (Fields.own_val (tt, tt) (list_val ∷ [])))
  fields_made 𝓛 = makes_shadow 𝓛 (Fields.own_val (tt, tt) (list_val ∷ [])) (λ vss. (tt, ((λ uss. (tt, tt)), tt))) ((vstruct vnil ∷ [], tt), (refl, ((tt, (refl, tt)), tt)))

module _ {M : Type 1} {𝓤 : Ura M} {𝓛 : Logic 𝓤} {K : Type 0} {Γ : List (Item 𝓤)} {G : Goal 𝓤 𝓛.H} where
  -- a list's data fields, which own nothing
  pub made : K → (T : RattleType) → Step K 𝓛 (‵ ((Fields T).own_val (tt, tt) (list_val ∷ [])) ∷ Γ) G Γ G
  made t T = use0 𝓛 (‵ ((Fields T).own_val (tt, tt) (list_val ∷ []))) (fields_made T 𝓛)

  -- a fact that is known
  pub known : K → (A : Type 0) → A → Step K 𝓛 (raw (fact 𝓤 A) ∷ Γ) G Γ G
  known t A a = use0 𝓛 (raw (fact 𝓤 A)) (fact_i 𝓤 A (emp 𝓤) a)
