-- A log stays one where an action is taken back or done again, and its history moves with it.
use Rattle.std.proofs.Common.{◌≡◌, List, [], ◌∷◌, length, Result, Ok, refl, sym, ap, subst, ◌∙◌, arith}
use Rattle.std.specs.Prelude.{Contains}
use Rattle.run_model.specs.Renamings.{Renaming}
use Rattle.class_table.specs.declared.record.Place.{Place}
use Rattle.class_table.specs.Slots.{Slots}
use Rattle.class_table.specs.View.{image_of}
use Rattle.command_model.specs.Conditions.{ConditionOf}
use Rattle.history_model.specs.History.{undone, redone}
use Rattle.run_model.specs.Values.{Name}
use Rattle.session_model.specs.Scripts.{Version, History, rules}
use Rattle.reference_index.specs.Mentioned.{Mentioned, IsIndexOf, DiffersAtMost}
use Rattle.session.specs.Log.{Done, taken_back, left_back, done_again, left_again, LeadsBack, LeadsForth, IsIndexBut, IsLogOf}
use Rattle.session.specs.History.{renamed_back, renaming_at, version_at, versions_before, versions_after, history_of}
use Rattle.session.proofs.Kept.{went-back, went-forth, back-known, again-known, renamed-again, renamed-taken}
use Rattle.session.proofs.Room.{index-along, known-before, known-behind}

-- the entry that was done again leads back, and the one that was taken back leads forth
abbrev pub again : Slots → Done → Done
again s e = record e { commands = left_again s e.commands }

abbrev pub back_again : Slots → Done → Done
back_again s e = record e { commands = left_back s e.commands }

-- an index to which all places are new
pub renewed : (s : Slots) (x : Mentioned) → IsIndexOf s x → IsIndexBut s x []
renewed s x is = record { former = s; index_of = is; differs = λ p no. refl }

-- where no place is to be looked at again, the index is that of the slots
pub is-index : (s : Slots) (x : Mentioned) (stale : List Place) → stale ≡ [] → IsIndexBut s x stale → IsIndexOf s x
is-index s x stale none is =
    let differs : DiffersAtMost is.former s [] = subst (DiffersAtMost is.former s) none is.differs in
    index-along is.former s x (λ p. differs p (λ (h : Contains [] p). absurd (omega (arith, h.1)))) is.index_of

-- the places of the way there are those of the way back
differs-back : (s t u : Slots) (touched : List Place) → u ≡ s → DiffersAtMost s t touched → DiffersAtMost t u touched
differs-back s t u touched e differs = subst (λ (z : Slots). DiffersAtMost t z touched) (sym e) (λ p no. sym (differs p no))

-- what becomes of a step
abbrev Outcome : Type 0
Outcome = Result History (ConditionOf Name)

module _ (s : Slots) (e : Done) (x y : Mentioned) (stale : List Place) (back forth : List Done) where
  -- an action that was undone is done again
  pub log-again : IsLogOf s (record { index = x; stale = stale; back = back; forth = e ∷ forth }) → IsIndexOf (done_again s e.commands) y
      → IsLogOf (done_again s e.commands) (record { index = y; stale = []; back = again s e ∷ back; forth = forth })
  log-again is index =
      let whole = went-forth s e.commands is.closed is.orderly is.forth.0 in
      let t : Slots = done_again s e.commands in
      record {
        closed = whole.closed;
        orderly = whole.orderly;
        index = renewed t y index;
        back = (whole.can, differs-back s t (taken_back t (left_again s e.commands)) e.touched whole.slots is.forth.1, subst (λ (z : Slots). LeadsBack z back) (sym whole.slots) is.back);
        forth = is.forth.2;
        back_known = known-behind s e.commands (again s e ∷ back) (again-known (length s.names) s e.commands is.forth_known.0, is.back_known);
        forth_known = known-behind s e.commands forth is.forth_known.1;
      }

  -- an action is taken back
  pub log-back : IsLogOf s (record { index = x; stale = stale; back = e ∷ back; forth = forth }) → IsIndexOf (taken_back s e.commands) y
      → IsLogOf (taken_back s e.commands) (record { index = y; stale = []; back = back; forth = back_again s e ∷ forth })
  log-back is index =
      let whole = went-back s e.commands is.closed is.orderly is.back.0 in
      let t : Slots = taken_back s e.commands in
      record {
        closed = whole.closed;
        orderly = whole.orderly;
        index = renewed t y index;
        back = is.back.2;
        forth = (whole.can, differs-back s t (done_again t (left_back s e.commands)) e.touched whole.slots is.back.1, subst (λ (z : Slots). LeadsForth z forth) (sym whole.slots) is.forth);
        back_known = known-before s e.commands back is.back_known.1;
        forth_known = known-before s e.commands (back_again s e ∷ forth) (back-known (length s.names) s e.commands is.back_known.0, is.forth_known);
      }

  -- an action that is done again is the version behind
  pub history-again : IsLogOf s (record { index = x; stale = stale; back = back; forth = e ∷ forth }) → redone rules (history_of s (record { index = x; stale = stale; back = back; forth = e ∷ forth }))
      ≡ Ok (history_of (done_again s e.commands) (record { index = y; stale = []; back = again s e ∷ back; forth = forth }))
  history-again is =
      let whole = went-forth s e.commands is.closed is.orderly is.forth.0 in
      ap renamed (sym (renamed-again s e.commands is.closed is.orderly is.forth.0 (renaming_at s back))) ∙ ap made (sym whole.slots)
    where
      t : Slots
      t = done_again s e.commands

      renamed : Renaming → Outcome
      renamed r = Ok (record { earlier = version_at s back ∷ versions_before s back; now = record { image = image_of t; renaming = r }; later = versions_after t r forth })

      made : Slots → Outcome
      made u = Ok (record {
        earlier = version_at u back ∷ versions_before u back;
        now = record { image = image_of t; renaming = renamed_back t (renaming_at u back) (left_again s e.commands) };
        later = versions_after t (renamed_back t (renaming_at u back) (left_again s e.commands)) forth;
      })

  -- an action that is taken back is the version before
  pub history-back : IsLogOf s (record { index = x; stale = stale; back = e ∷ back; forth = forth }) → undone rules (history_of s (record { index = x; stale = stale; back = e ∷ back; forth = forth }))
      ≡ Ok (history_of (taken_back s e.commands) (record { index = y; stale = []; back = back; forth = back_again s e ∷ forth }))
  history-back is =
      let whole = went-back s e.commands is.closed is.orderly is.back.0 in
      λ i. Ok (record {
        earlier = versions_before before back;
        now = version_at before back;
        later = behind (sym whole.slots i) (sym (renamed-taken s e.commands is.closed is.orderly is.back.0 (renaming_at before back)) i);
      })
    where
      before : Slots
      before = taken_back s e.commands

      behind : Slots → Renaming → List Version
      behind u r = record { image = image_of u; renaming = r } ∷ versions_after u r forth
