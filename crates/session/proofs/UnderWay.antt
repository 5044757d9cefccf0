-- Commands that are carried out one after the other.
use Rattle.std.proofs.Common.{◌≡◌, ◌<◌, ℕ, List, [], ◌∷◌, ◌++◌, length, Result, Ok, Err, refl, sym, ap, subst, ◌∙◌}
use Rattle.std.proofs.lemmas.List.Elements.{Contains-append_left, Contains-append_right}
use Rattle.rb_base.specs.Names.{name_at}
use Rattle.image_model.specs.Image.{ImageOf}
use Rattle.run_model.specs.Values.{Name}
use Rattle.run_model.specs.Renamings.{Renaming, composed}
use Rattle.class_table.specs.declared.record.Place.{Place}
use Rattle.class_table.specs.Slots.{Slots}
use Rattle.class_table.specs.View.{image_of}
use Rattle.change_set.specs.Changes.{all_applied, inverses, all_undone}
use Rattle.command_model.specs.Asked.{text_asked}
use Rattle.command_model.specs.Commands.{CommandOf}
use Rattle.command_model.specs.Conditions.{ConditionOf}
use Rattle.command_model.specs.Judged.{judged}
use Rattle.command_model.specs.Renamings.{renaming_of}
use Rattle.rename_model.specs.ClassRenamed.{canonical}
use Rattle.command_numbers.specs.MappedCommands.{map_condition}
use Rattle.commands.specs.Views.{condition_of}
use Rattle.commands.specs.declared.condition.Condition.{Condition}
use Rattle.history_model.specs.History.{after_all, by_result, version_after}
use Rattle.reference_index.specs.Mentioned.{Mentioned, names_at, IsIndexOf, DiffersAtMost}
use Rattle.session_model.specs.Scripts.{Version, rules}
use Rattle.wider_slots.specs.Logs.{CanTakeBack, CanDoAgain}
use Rattle.wider_slots.specs.Wider.{Wider}
use Rattle.wider_slots.proofs.Opened.{all-append}
use Rattle.wider_slots.proofs.Orderly.{orderly-wider}
use Rattle.wider_slots.proofs.StepLemmas.{wider-twice}
use Rattle.session.specs.Log.{DoneCommand, Done, with_command, taken_back, CanGoBack, RenamesNames, CommandsKnown}
use Rattle.session.specs.History.{renamed_by, renamed_back, version_behind}
use Rattle.session.specs.Stepping.{IsUnderWay, IsCarriedOut}
use Rattle.session.specs.declared.refusal.StepRefusal.{StepRefusal}
use Rattle.session.specs.declared.refusal.StepRefusal.TheVariants as refusal
use Rattle.session.proofs.Kept.{applied-names, again-leads, again-closed, again-can}
use Rattle.session.proofs.Room.{room-names, room-mentions, index-along, renames-longer, commands-longer, room-renamed, back-both, back-renamed}

-- the index goes with the code
abbrev pub Follows : Slots → Mentioned → Mentioned → List Place → Type 0
Follows t x y touched = (z : Slots) → IsIndexOf z x → DiffersAtMost z t touched → IsIndexOf t y

-- commands behind others
back-behind : (s : Slots) (fs bs : List DoneCommand) → taken_back s (fs ++ bs) ≡ taken_back (taken_back s bs) fs
back-behind s [] bs = refl
back-behind s (d ∷ fs) bs = ap (λ (z : Slots). all_undone z d.changes) (back-behind s fs bs)

can-behind : (s : Slots) (fs bs : List DoneCommand) → CanGoBack s bs → CanGoBack (taken_back s bs) fs → CanGoBack s (fs ++ bs)
can-behind s [] bs last first = last
can-behind s (d ∷ fs) bs last first =
    (can-behind s fs bs last first.0, subst (λ (z : Slots). CanTakeBack z d.changes) (sym (back-behind s fs bs)) first.1)

renamed-behind : (s : Slots) (r : Renaming) (fs bs : List DoneCommand) → renamed_back s r (fs ++ bs) ≡ renamed_back s (renamed_back (taken_back s bs) r fs) bs
renamed-behind s r [] bs = refl
renamed-behind s r (d ∷ fs) bs =
    ap (λ (z : Slots). renamed_back s (composed r (renamed_by z d)) (fs ++ bs)) (back-behind s (d ∷ fs) bs)
    ∙ renamed-behind s (composed r (renamed_by (taken_back (taken_back s bs) (d ∷ fs)) d)) fs bs

-- room in between
pub under_way-room : (first s t : Slots) (x : Mentioned) (d : Done) → Wider s t → IsUnderWay first s x d → IsUnderWay first t x d
under_way-room first s t x d room is =
    let both = back-both s t d.commands room is.back in
    record {
      closed = room.still;
      orderly = orderly-wider s t room is.orderly;
      index_of = index-along s t x (room-mentions s t room) is.index_of;
      back = both.can;
      known = commands-longer (length s.names) (length t.names) (room-names s t room) d.commands is.known;
      room = wider-twice first (taken_back s d.commands) (taken_back t d.commands) is.room both.room;
      touched = λ p no. room-mentions (taken_back s d.commands) (taken_back t d.commands) both.room p ∙ is.touched p no ∙ sym (room-mentions s t room p);
    }

-- the changes of a plan, made in slots with room
module _ (s p : Slots) (d : Done) (c : DoneCommand) (places : List Place) (room : Wider s p) (can : CanDoAgain p c.changes) (named : RenamesNames (λ k. k < length s.names) c.renames) where
  -- the slots then, the command fs it is kept, and the action with it
  abbrev pub after : Slots
  after = all_applied p c.changes

  abbrev pub kept : DoneCommand
  kept = record { changes = inverses p c.changes; renames = c.renames }

  abbrev pub next : Done
  next = with_command d kept places

  -- the last command is taken back, and then those before it
  last-back : taken_back after (kept ∷ []) ≡ p
  last-back = (again-leads p c.changes room.still can).image

  all-back : taken_back after next.commands ≡ taken_back p d.commands
  all-back = back-behind after d.commands (kept ∷ []) ∙ ap (λ (z : Slots). taken_back z d.commands) last-back

  pub under_way-next : (x y : Mentioned) → DiffersAtMost p after places → Follows after x y places → (first : Slots) → IsUnderWay first s x d → IsUnderWay first after y next
  under_way-next x y differs follows first is =
      let there = under_way-room first s p x d room is in
      record {
        closed = again-closed p c.changes room.still can;
        orderly = can.orderly;
        index_of = follows p there.index_of differs;
        back = can-behind after d.commands (kept ∷ []) (tt, again-can p c.changes room.still there.orderly can) (subst (λ (z : Slots). CanGoBack z d.commands) (sym last-back) there.back);
        known = subst (λ (names : List (List ℕ)). CommandsKnown (length names) next.commands) (sym (applied-names p c.changes)) (
            all-append (λ (b : DoneCommand). RenamesNames (λ k. k < length p.names) b.renames) d.commands (kept ∷ []) there.known (renames-longer (length s.names) (length p.names) (room-names s p room) c.renames named, tt));
        room = subst (Wider first) (sym all-back) there.room;
        touched = λ q no. ap (λ (z : Slots). names_at z q) all-back ∙ there.touched q (λ h. no (Contains-append_left d.touched places q h)) ∙ sym (differs q (λ h. no (Contains-append_right d.touched places q h)));
      }

  -- what is renamed then
  pub renamed-next : CanGoBack s d.commands → CommandsKnown (length s.names) d.commands → (r : Renaming) → renamed_back after r next.commands ≡ composed (renamed_back s r d.commands) (renamed_by s c)
  renamed-next back known r =
      renamed-behind after r d.commands (kept ∷ [])
      ∙ ap (λ (z : Slots). composed (renamed_back z r d.commands) (renamed_by z c)) last-back
      ∙ (λ i. composed (back-renamed s p d.commands room back known r i) (room-renamed s p c room named i))

-- commands in two parts
module _ (bs : List (CommandOf Name)) where
  abbrev Outcome : Type 0
  Outcome = Result Version (ConditionOf Name)

  -- what follows the first part
  abbrev rest : Outcome → Outcome
  rest o = by_result (λ v. after_all rules v bs) (λ q. Err q) o

  part : (v : Version) (c : CommandOf Name) (fs : List (CommandOf Name)) → ((w : Version) → after_all rules w (fs ++ bs) ≡ rest (after_all rules w fs)) → (o : Result (ImageOf Name) (ConditionOf Name))
      → by_result (λ j. after_all rules (version_after rules v c j) (fs ++ bs)) (λ q. Err q) o ≡ rest (by_result (λ j. after_all rules (version_after rules v c j) fs) (λ q. Err q) o)
  part v c fs others (Ok j) = others (version_after rules v c j)
  part v c fs others (Err q) = refl

  parts : (v : Version) (fs : List (CommandOf Name)) → after_all rules v (fs ++ bs) ≡ rest (after_all rules v fs)
  parts v [] = refl
  parts v (c ∷ fs) = part v c fs (λ w. parts w fs) (judged text_asked canonical v.image c)

-- commands are carried out behind others
pub carried-both : (s t u : Slots) (x y z : Mentioned) (d e f : Done) (fs bs : List (CommandOf Name)) (result : Result (Unit {0}) StepRefusal)
    → IsCarriedOut s x d fs t y e (Ok tt) → IsCarriedOut t y e bs u z f result → IsCarriedOut s x d (fs ++ bs) u z f result
carried-both s t u x y z d e f fs bs (Ok v) first second = record {
  under_way = λ begin is. second.under_way begin (first.under_way begin is);
  names = second.names ∙ first.names;
  done = λ r. parts bs (version_behind s r d.commands) fs ∙ ap (rest bs) (first.done r) ∙ second.done r;
  refused = tt;
}
carried-both s t u x y z d e f fs bs (Err q) first second = record {
  under_way = λ begin is. second.under_way begin (first.under_way begin is);
  names = second.names ∙ first.names;
  done = tt;
  refused = λ c same r.
      parts bs (version_behind s r d.commands) fs ∙ ap (rest bs) (first.done r) ∙ second.refused c same r
      ∙ ap (λ (names : List (List ℕ)). Err (map_condition (name_at names) (condition_of c))) first.names;
}

-- the others are not carried out where one is refused
pub carried-refused : (s t : Slots) (x y : Mentioned) (d e : Done) (fs bs : List (CommandOf Name)) (q : StepRefusal)
    → IsCarriedOut s x d fs t y e (Err q) → IsCarriedOut s x d (fs ++ bs) t y e (Err q)
carried-refused s t x y d e fs bs q first = record {
  under_way = first.under_way;
  names = first.names;
  done = tt;
  refused = λ c same r. parts bs (version_behind s r d.commands) fs ∙ ap (rest bs) (first.refused c same r);
}

-- no commands
pub carried-none : (s : Slots) (x : Mentioned) (d : Done) → IsCarriedOut s x d [] s x d (Ok tt)
carried-none s x d = record { under_way = λ begin is. is; names = refl; done = λ r. refl; refused = tt }

-- want of memory, after room was made
pub carried-wanting : (s t : Slots) (x y : Mentioned) (d e : Done) (commands : List (CommandOf Name)) → Wider s t → t.names ≡ s.names → y ≡ x → e ≡ d → IsCarriedOut s x d commands t y e (Err refusal.Memory)
carried-wanting s t x y d e commands room names index entry =
    subst (λ (z : Mentioned). IsCarriedOut s x d commands t z e (Err refusal.Memory)) (sym index) (
    subst (λ (z : Done). IsCarriedOut s x d commands t x z (Err refusal.Memory)) (sym entry) (record {
      under_way = λ begin is. under_way-room begin s t x d room is;
      names = names;
      done = tt;
      refused = λ c same. cc;
    }))

-- one command
module _ (s : Slots) (x : Mentioned) (d : Done) (command : CommandOf Name) where
  -- what becomes of it
  abbrev one : Renaming → Result (ImageOf Name) (ConditionOf Name) → Result Version (ConditionOf Name)
  one r o = by_result (λ j. Ok (version_after rules (version_behind s r d.commands) command j)) (λ q. Err q) o

  pub carried-false : (q : Condition) → judged text_asked canonical (image_of s) command ≡ Err (map_condition (name_at s.names) (condition_of q)) → IsCarriedOut s x d (command ∷ []) s x d (Err (refusal.Condition q))
  carried-false q e = record {
    under_way = λ begin is. is;
    names = refl;
    done = tt;
    refused = λ c same r.
        let is : q ≡ c = cc in
        ap (one r) e ∙ ap (λ (b : Condition). Err (map_condition (name_at s.names) (condition_of b))) is;
  }

  pub carried-one : (p : Slots) (y : Mentioned) (c : DoneCommand) (places : List Place) (room : Wider s p) (can : CanDoAgain p c.changes) → RenamesNames (λ k. k < length s.names) c.renames → p.names ≡ s.names → CanGoBack s d.commands → CommandsKnown (length s.names) d.commands
      → DiffersAtMost p (all_applied p c.changes) places → Follows (all_applied p c.changes) x y places
      → judged text_asked canonical (image_of s) command ≡ Ok (image_of (all_applied p c.changes)) → renamed_by s c ≡ renaming_of (image_of s) command
      → IsCarriedOut s x d (command ∷ []) (all_applied p c.changes) y (with_command d (record { changes = inverses p c.changes; renames = c.renames }) places) (Ok tt)
  carried-one p y c places room can named names back known differs follows made renamed = record {
    under_way = under_way-next s p d c places room can named x y differs follows;
    names = applied-names p c.changes ∙ names;
    done = λ r.
        ap (one r) made
        ∙ (λ i. Ok (record { image = image_of (all_applied p c.changes); renaming = (ap (composed (renamed_back s r d.commands)) (sym renamed) ∙ sym (renamed-next s p d c places room can named back known r)) i }));
    refused = tt;
  }
