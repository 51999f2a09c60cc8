-- `disc` lends what is in the box, and the handle follows it.
use Rattle.std.specs.Prelude.{IsSome}
use Rattle.std.specs.declared.option.Option.{Option}
use Rattle.std.specs.declared.option.Option.TheVariants.{None, Some}
use mathlib.Core.Path.{◌≡◌, refl, sym, subst}
use mathlib.Core.List.{List, [], ◌∷◌}
use Prim.Native.Nat.{ℕ}
use lib.Dec.{T}
use seplogic.Ra.Ura.{Ura}
use base.Fraction.{full_share}
use mir.Raw.{raw as bare}
use mir.Syntax.{named}
use mir.Val.{Val, vptr}
use base.Logic.{SProp, ent, sep, via, fst∗, id⊢}
use base.Fml.{Lft, GName, Share, Fml, ftrue, flft, fsep}
use prog.Memory.{Memory}
use prog.Routine.{Routine}
use prog.Wp.{Env, WpFn, Tables}
use types.Logic.{Logic, sem}
use contract.Monad.{Fun, fact}
use contract.Running.{tables, tables_of}
use sound.WpLaws.{WpFn-mono}
use types.Kit.{‵, raw, ◌⊛◌, some, at_ret, ◌$◌, ◌∵◌, !, qed, by, move, keep, use1, drop, split, join, pick, fsplit, fsplit3, fjoin, fpack, suffices, frame, rewrite, later, await, group, done}
use types.Part.{whole, sub, look_in}
use types.Run.{stop, fld, load, of_opd, first, blocks, exec, returns, enter, addr}
use types.ByLocal.{alloc_all, pass_all, free_all, look_at, get, through, sets, sets_last, env}
use denote.Exit.{no}
use denote.Follow.{follows, Part, lends_Part}
use denote.Memory.{part_at, mem, cell_at, part_of}
use denote.RattleType.{owns}
use denote.RawPtr.{Ptr, block_ptr}
use denote.Ref.{MutRef, mut_vals, mut_Tells}
use denote.Signature.{plain, mut_ref_to}
use denote.Steps.{opens, nothing, heard}
use denote.Triple.Entry.{on_entry}
use denote.Triple.Spec.{triple_of}
use denote.Triple.Table.{entered}
use denote.Triple.Walked.{says, Stays, stay_dropped, walk_of, ends_at, walked, walk_Meets, Goes-spent_ref}
use Rattle.std.proofs.alloc.Calls.{token}
use Rattle.std_alloc.specs.Box.{with_value}
use Rattle.std_alloc.proofs.BoxSteps.Form.{D, R, B, X, τ, word, handle}
use Rattle.std_alloc.proofs.BoxSteps.Steps.{box_out, box_in}
use Rattle.std_alloc.proofs.VecSteps.Shapes.{after}
use Rattle.std_heap.specs.contracts.Global as Heap
use Rattle.queue_disc_core.specs.contracts.queue_disc.QueueDisc as Disc
use Rattle.maltcove_c.specs.Lending.{with_disc}
use Rattle.maltcove_c.proofs.AsBox.{E}
use Rattle.maltcove_c.specs.contracts.handle.Handle as Handle
use Rattle.maltcove_c.specs.contracts.handle.Handle.disc as F
use Rattle.maltcove_c.specs.contracts.handle.Handle.disc.Key.{name as #self}
use Rattle.maltcove_c.proofs.handle.Handle.disc.Statement as stated
use Rattle.maltcove_c.proofs.handle.Handle.disc.Code as code

abbrev stayed : Stays (F.ended).signature.params (F.ended).kept
stayed = (stay_dropped (mut_ref_to (0 ∷ []) tt (plain (λ _. Handle.the_row))) no, tt)

abbrev HandleOf : Ptr → Heap.the_row.Denot → Option (X E) → Handle.the_row.Denot
HandleOf at alloc o = record { at = at; alloc = alloc; value = o }

module _ {M : Type 1} {𝓤 : Ura M} (𝓛 : Logic 𝓤) (at_mem : Memory → SProp 𝓤) (run : Routine → Fun 𝓤) (𝓣 : Tables 𝓤 𝓛.H) where
  open 𝓛 use {H, A}

  module _ (κ : Lft) (q : Share) (rb ro : ℕ) (γ : GName) (at : Ptr) (alloc : Heap.the_row.Denot) where
    abbrev bound : Option (X E) → (walk_of 𝓛 F.ended stayed (F.clauses 𝓛 at_mem run)).Ghost
    bound o = (((κ, tt), (q, tt), tt, (record { ref_ptr = (rb, ro); ghost_name = γ; now = HandleOf at alloc o }, tt), (vptr rb ro ∷ [], tt)), tt)

    abbrev entry : Option (X E) → SProp 𝓤
    entry o = on_entry 𝓛 (F.ended).signature (κ, tt) (q, tt) (record { ref_ptr = (rb, ro); ghost_name = γ; now = HandleOf at alloc o }, tt) (vptr rb ro ∷ [], tt)

    abbrev Post : Option (X E) → Val → SProp 𝓤
    Post o = (walk_of 𝓛 F.ended stayed (F.clauses 𝓛 at_mem run)).post (bound o)

    module _ (x : X E) where
      abbrev h : Handle.the_row.Denot
      h = HandleOf at alloc (Some x)

      abbrev box : D E
      box = record { ptr = at; alloc = alloc; value = x }

      module _ (b o : ℕ) (hv : Val) where
        -- all of the handle but what is in its box
        abbrev Rest : Fml
        Rest = fsep (fsep (token E.al alloc (bare (τ E)) (block_ptr b o)) (handle E alloc hv)) (cell_at full_share Handle.the_row.mir (word E hv b o ∷ []) rb ro)

        back : at ≡ block_ptr b o → (w : X E) → ent 𝓤 (sep 𝓤 (sem 𝓛 ((mem Disc.the_row).own_at w b o)) (sem 𝓛 Rest)) (sem 𝓛 ((mem Handle.the_row).own_at (with_disc h w) rb ro))
        unfolding part_of
        back at_b w =
            qed 𝓛 (‵ (part_at (R E) full_share w b o) ∷ ‵ Rest ∷ []) ∵ move ! (1 ∷ []) $ fsplit ! $ fsplit ! $ move ! (3 ∷ []) $
            box_in E ! (with_value box w) b o w at_b refl $ use1 𝓛 (‵ (Handle.the_row.own_val (with_disc h w) (word E hv b o ∷ []))) (id⊢ 𝓤 _) $ move ! (1 ∷ 0 ∷ []) $ fjoin ! $
            fpack ! (List Val) (λ us. fsep (cell_at full_share Handle.the_row.mir us rb ro) (Handle.the_row.own_val (with_disc h w) us)) (word E hv b o ∷ []) $ done !

        abbrev lent : GName → Fml
        lent γ' = (MutRef (named 0) κ Disc.the_row).own_val (record { ref_ptr = (b, o); ghost_name = γ'; now = x }) (vptr b o ∷ [])

        exits : (γ' : GName) → ent 𝓤 (sep 𝓤 (sem 𝓛 (lent γ')) (sep 𝓤 (A.lft κ q) (sem 𝓛 (follows Handle.the_row Disc.the_row γ γ' (with_disc h))))) (Post (Some x) (vptr b o))
        exits γ' =
            qed 𝓛 (‵ (lent γ') ∷ ‵ (flft κ q) ∷ ‵ (follows Handle.the_row Disc.the_row γ γ' (with_disc h)) ∷ []) ∵
            suffices ! _ (ends_at 𝓛 F.ended stayed (F.clauses 𝓛 at_mem run) (bound (Some x)) (vptr b o) (record { ref_ptr = (b, o); ghost_name = γ'; now = x }) (tt, tt) (tt, tt)) $
            nothing ! $ nothing ! $ fjoin ! $ join ! $ nothing ! $ move ! (2 ∷ 0 ∷ []) $ join ! $ join ! $ frame ! $ says ! refl $ done !

      walk : ent 𝓤 (entry (Some x)) (WpFn 𝓤 H 𝓣.C 𝓣.Λ code.function (vptr rb ro ∷ []) (Post (Some x)))
      walk =
          qed 𝓛 ((‵ (flft κ q) ⊛ ‵ ftrue) ∷ ‵ (owns (MutRef (named 0) κ Handle.the_row ∷ []) (record { ref_ptr = (rb, ro); ghost_name = γ; now = h }, tt) (vptr rb ro ∷ [], tt)) ∷ []) ∵
          enter ! 𝓣.C 𝓣.Λ code.function (vptr rb ro ∷ []) _ $
          alloc_all ! (λ l. pass_all ! refl ((tt, tt), tt) $
          let En : Env 𝓤 H = env (code.function).locals l in
          move ! (1 ∷ []) $ fsplit ! $ fsplit3 ! $ drop ! $ move ! (3 ∷ []) $ split ! $ move ! (2 ∷ 3 ∷ 0 ∷ []) $
          opens ! tt Handle.the_row {h = h} rb ro (λ vs. move ! (1 ∷ []) $ use1 𝓛 (‵ ((B E).own_val box vs)) (id⊢ 𝓤 _) $
          box_out E ! box vs (λ b o hv at_b ws fa. move ! (1 ∷ 2 ∷ []) $ fjoin ! $ move ! (1 ∷ []) $
          rewrite ! 2 (λ (us : List Val). ‵ (cell_at full_share Handle.the_row.mir us rb ro)) ws refl $
          first ! $ blocks ! $
          sets ! (of_opd ! (load ! (through ! refl (fld ! refl (stop !))) (look_in ! 2 (sub ! 0 refl (whole !))))) refl (tt, tt) $
          sets ! (of_opd ! (get ! refl)) refl (tt, tt) $
          sets_last ! (addr ! (through ! refl (stop !))) refl (tt, tt) $
          exec ! 𝓣.C 𝓣.Λ En (after 1 (code.function).body) (at_ret En (Post (Some x))) $
          sets ! (of_opd ! (get ! refl)) refl (tt, tt) $
          move ! (1 ∷ 2 ∷ []) $ fjoin ! $ move ! (2 ∷ 3 ∷ 4 ∷ 1 ∷ 0 ∷ []) $ group ! 5 $
          use1 𝓛 (later (some (λ (γ' : GName). raw (Part 𝓛 Handle.the_row Disc.the_row (with_disc h) (named 0) κ q rb ro b o γ (sem 𝓛 (Rest b o hv)) (back b o hv at_b) x γ'))))
          (lends_Part 𝓛 Handle.the_row Disc.the_row (with_disc h) (named 0) κ q rb ro b o γ (sem 𝓛 (Rest b o hv)) (back b o hv at_b) (Handle.the_row.coded.code h) (Handle.the_row.coded.code h) x) $ await ! tt $ pick ! (λ γ'.
          returns ! (look_at ! 0 refl) $ free_all ! refl $
          keep ! (0 ∷ []) $ by ! (exits b o hv γ')))))

    walk_at : (o : Option (X E)) → ent 𝓤 (sep 𝓤 (entry o) (fact 𝓤 (IsSome o))) (WpFn 𝓤 H 𝓣.C 𝓣.Λ code.function (vptr rb ro ∷ []) (Post o))
    walk_at None =
        qed 𝓛 (raw (entry None) ∷ raw (fact 𝓤 (IsSome {T = X E} None)) ∷ []) ∵ move ! (1 ∷ []) $ heard ! (IsSome {T = X E} None) (λ e. absurd (subst T (sym e) tt))
    walk_at (Some x) = via 𝓤 _ (fst∗ 𝓤 _ (fact 𝓤 (IsSome (Some x)))) (walk x)

pub disc_spec : {M : Type 1} → stated.statement M
unfolding tables_of
disc_spec 𝓤 𝓛 𝓜 𝓡 wired =
    let 𝓣 : Tables 𝓤 𝓛.H = tables_of 𝓤 𝓛.H 𝓜 (tables 𝓤 𝓛.H 𝓜 𝓡 𝓡.env) in
    let run = WpFn 𝓤 𝓛.H 𝓣.C 𝓣.Λ code.function in
    entered 𝓤 𝓛.H (triple_of 𝓛 F.signature (F.spec 𝓛 𝓜.mem 𝓡.returns)) 𝓣.C 𝓣.Λ #self code.function (code.unfolded 𝓤 𝓛.H 𝓜 𝓡 wired)
    (walk_Meets 𝓛 F.ended stayed (Goes-spent_ref 𝓛 1 (0 ∷ []) tt (plain (λ _. Handle.the_row)), tt) (F.clauses 𝓛 𝓜.mem 𝓡.returns) run (WpFn-mono 𝓤 𝓛.H 𝓛.laws 𝓣 code.function)
    (walked 𝓛 F.ended stayed (F.clauses 𝓛 𝓜.mem 𝓡.returns) run (λ κs. (mut_vals, tt)) (λ κs. (mut_Tells (named 0) κs.0 Handle.the_row, tt))
    (λ κs qs bounds a g are. walk_at 𝓛 𝓜.mem 𝓡.returns 𝓣 κs.0 qs.0 a.0.ref_ptr.0 a.0.ref_ptr.1 a.0.ghost_name a.0.now.at a.0.now.alloc a.0.now.value)))
