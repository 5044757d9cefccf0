-- Where the conditions of `inlineMethod` hold, its message is one to self that may be inlined.
use Rattle.std.proofs.Common.{◌≡◌, ℕ, List, [], ◌∷◌, Option, Some, None, sym, ap, ◌∙◌, subst}
use Rattle.std.specs.Prelude.{Bool, true, false, not, ◌&&◌, if◌then◌else◌, find}
use Rattle.std.specs.Option.{option_map_or, option_or}
use Rattle.std.proofs.Math.Bool.{beq}
use Rattle.rb_base.specs.Names.{text_eq}
use Rattle.tree_model.specs.Tree.{send}
use Rattle.image_model.specs.Image.{ClassOf, EntryOf, ImageOf}
use Rattle.image_model.specs.ImageNames.{OptionNames}
use Rattle.image_model.specs.Words.{text_words}
use Rattle.image_model.specs.Upwards.{first_given}
use Rattle.image_model.specs.Chain.{class_of_name, chain_from}
use Rattle.image_model.specs.Lookup.{is_method, own_method, on_chain, as_object, lookup}
use Rattle.image_model.specs.Valid.{HasClass}
use Rattle.run_model.specs.Values.{Name}
use Rattle.run_model.proofs.Finite.{and-true_left, and-true_right}
use Rattle.run_model.proofs.RenamingLemmas.{text-same}
use Rattle.mapped_model.proofs.RenamedVariableLemmas.{all-at}
use Rattle.rename_model.specs.CommandWords.{arity}
use Rattle.rename_laws.proofs.Unnamed.{denied}
use Rattle.agreement_laws.proofs.MethodsFound.{IsIn, lookup-in}
use Rattle.reread_law.specs.WellFormed.{WellFormed}
use Rattle.reread_law.specs.WholeTrees.{WellFormedMethod}
use Rattle.unfolded_calls.proofs.Running.{none-some, find-passes}
use Rattle.file_out_laws.proofs.AritiesSpelled.{fits-count, pattern-count, node-formed}
use Rattle.command_model.specs.Asked.{text_asked}
use Rattle.command_model.specs.CodeAllowed.{MayInlineMethod}
use Rattle.command_model.specs.Commands.{InlineMethod}
use Rattle.command_model.specs.Places.{users_method, SendOf}
use Rattle.command_model.specs.CodeEffects.{send_at, target_of}
use Rattle.command_model.specs.InlineConditions.{is_self_send, is_inlinable, are_actuals_plain, captures_nothing, makes_no_control}
use Rattle.moved_code_laws.specs.WellWritten.{IsWellWritten}
use Rattle.moved_code_laws.proofs.UsersThere.{UsersMethod, users-there}
use Rattle.moved_code_laws.proofs.Targets.{test-there}
use Rattle.moved_code_laws.proofs.SendFound.{self-receiver, StandsAt, send-there}
use Rattle.moved_code_laws.proofs.InlinedHere.{Scene, no-primitive}

-- what follows from each of two follows from one or the other
from-either : {X : Type 0} (R : Type 0) (o p : Option X) (x : X) → (o ≡ Some x → R) → (p ≡ Some x → R) → option_or o p ≡ Some x → R
from-either R None p x f g e = g e
from-either R (Some y) p x f g e = f e

-- what is given of the items is given of one of them
given-of : {X Y : Type 0} (f : X → Option Y) (xs : List X) (y : Y) → first_given f xs ≡ Some y → (x : X) × (f x ≡ Some y)
given-of f [] y e = none-some e
given-of f (x ∷ xs) y e = from-either _ (f x) (first_given f xs) y (λ q. (x, q)) (given-of f xs y) e

-- the method that is found has the selector
selector-found : (i : ImageOf Name) (c : Option Name) (meta : Bool) (s : Name) (m : EntryOf Name) → lookup text_words i c meta s ≡ Some m → s ≡ m.tree.selector
selector-found i c meta s m e = from-either (s ≡ m.tree.selector) (on_chain text_eq i (class_of_name text_eq i.classes c) meta s) (if meta then as_object text_words i s else None) m (own meta (class_of_name text_eq i.classes c)) (objects meta) e
  where
    own : (b : Bool) (o : Option (ClassOf Name)) → on_chain text_eq i o b s ≡ Some m → s ≡ m.tree.selector
    own b o q =
        let at = given-of (λ (d : ClassOf Name). own_method text_eq i.methods d.name b s) (chain_from text_eq i.classes o) m q in
        text-same s m.tree.selector (and-true_right (option_map_or (text_eq at.0.name) m.class false && beq b m.meta) (text_eq s m.tree.selector) (find-passes (is_method text_eq at.0.name b s) i.methods m at.1))

    objects : (b : Bool) → (if b then as_object text_words i s else None) ≡ Some m → s ≡ m.tree.selector
    objects true q = own false (find (λ d. text_words.is_class d.name) i.classes) q
    objects false q = none-some q

module _ (i : ImageOf Name) (sound : IsWellWritten i) (c : Name) (meta : Bool) (s : Name) (from to : ℕ) (hold : MayInlineMethod text_asked i (InlineMethod c meta s from to) c meta s from to) where
  -- the message
  pub sent : (x : EntryOf Name × SendOf Name) × (send_at text_asked i c meta s from to ≡ Some x) × (is_self_send text_asked i x.1 ≡ true)
  sent = test-there (λ (e : EntryOf Name × SendOf Name). is_self_send text_asked i e.1) (send_at text_asked i c meta s from to) hold.self_send

  -- the method that it runs
  pub runs : (m : EntryOf Name) × (lookup text_words i (Some c) meta sent.0.1.selector ≡ Some m) × (not m.kernel ≡ true)
  runs = test-there (λ (m : EntryOf Name). not m.kernel) (lookup text_words i (Some c) meta sent.0.1.selector) (and-true_left (option_map_or (λ (m : EntryOf Name). not m.kernel) (lookup text_words i (Some c) meta sent.0.1.selector) false) _ (hold.one_target sent.0 sent.1))

  -- what a condition says of both
  of-both : (test : EntryOf Name → SendOf Name → EntryOf Name → Bool) → option_map_or (λ (e : EntryOf Name × SendOf Name). option_map_or (test e.0 e.1) (target_of text_asked i c meta e.1) false) (send_at text_asked i c meta s from to) false ≡ true → test sent.0.0 sent.0.1 runs.0 ≡ true
  of-both test h =
      sym (ap (λ o. option_map_or (test sent.0.0 sent.0.1) o false) runs.1)
      ∙ sym (ap (λ o. option_map_or (λ (e : EntryOf Name × SendOf Name). option_map_or (test e.0 e.1) (target_of text_asked i c meta e.1) false) o false) sent.1) ∙ h

  pub found : users_method text_eq i c meta s ≡ Some sent.0.0
  found = (send-there i c meta s from to sent.0 sent.1).0

  stands : StandsAt sent.0.0 sent.0.1
  stands = (send-there i c meta s from to sent.0 sent.1).1

  mine : UsersMethod i c meta sent.0.0
  mine = users-there i sound c meta s sent.0.0 found

  place : IsIn i runs.0
  place = subst (OptionNames (IsIn i)) runs.1 (lookup-in i (Some c) meta sent.0.1.selector)

  target_formed : WellFormedMethod false runs.0.tree
  target_formed = all-at (λ (n : EntryOf Name). n.kernel ≡ false → WellFormedMethod false n.tree) i.methods place.0 runs.0 sound.formed place.1 (denied runs.0.kernel runs.2)

  owner : HasClass i.classes runs.0
  owner = all-at (HasClass i.classes) i.methods place.0 runs.0 sound.behind.classes_there place.1

  sent_formed : WellFormed (send sent.0.1.receiver sent.0.1.selector sent.0.1.arguments)
  sent_formed = node-formed sent.0.0.tree.body mine.formed.body.statements sent.0.1.path (send sent.0.1.receiver sent.0.1.selector sent.0.1.arguments) stands.there

  pub scene : Scene i c meta sent.0.0 sent.0.1 runs.0
  scene = record {
    user = hold.user_class;
    class = mine.class;
    side = mine.side;
    stands = stands;
    to_self = self-receiver i sent.0.1.path sent.0.1.receiver sent.0.1.selector sent.0.1.arguments sent.2;
    one = hold.one_target sent.0 sent.1;
    finds = runs.1;
    own = denied runs.0.kernel runs.2;
    inlinable = of-both (is_inlinable text_asked i c) (hold.inlinable sent.0 sent.1 runs.0 runs.1 owner.0 owner.1);
    captures = of-both (captures_nothing text_asked i) (hold.no_capture sent.0 sent.1 runs.0 runs.1);
    plain = of-both (are_actuals_plain text_asked i) (hold.plain_actuals sent.0 sent.1 runs.0 runs.1);
    formed = sent_formed;
    counted = pattern-count runs.0.tree.selector target_formed.pattern ∙ ap arity (sym (selector-found i (Some c) meta sent.0.1.selector runs.0 runs.1)) ∙ sym (fits-count sent.0.1.selector sent_formed.2);
  }

  -- it is no primitive
  pub plain : sent.0.0.tree.primitive ≡ None
  plain = no-primitive sent.0.0.tree.primitive sent.0.0.tree.body.temporaries sent.0.0.tree.body.statements mine.formed.primitive

  pub control : makes_no_control text_asked i sent.0.0 sent.0.1 runs.0 ≡ true
  control = of-both (makes_no_control text_asked i) (hold.no_new_control sent.0 sent.1 runs.0 runs.1)
