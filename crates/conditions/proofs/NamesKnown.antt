-- What is known of each condition of a command.
use Rattle.std.proofs.Common.{◌≡◌, ℕ, Bool, true, List, [], ◌∷◌, ◌++◌, map, length, Option, Some, None, option_map, is_some, refl, sym, ap, subst, ◌∙◌}
use Rattle.std.specs.Prelude.{nat_eq, if◌then◌else◌}
use Rattle.std.specs.List.{AllByRecursion}
use Rattle.std.specs.Option.{option_map_or, option_and_then}
use Rattle.image_model.specs.Image.{EntryOf, ImageOf}
use Rattle.image_model.specs.Lookup.{own_method}
use Rattle.class_table.specs.Slots.{Slots}
use Rattle.class_table.specs.Valid.{IsOrderly}
use Rattle.class_table.specs.View.{class_of, class_at, entry_at, number_image}
use Rattle.class_table.specs.Finding.{named_in, method_in}
use Rattle.class_table.proofs.Live.{there}
use Rattle.class_table.proofs.Found.{class_named-named_in}
use Rattle.class_questions.proofs.ChainLaws.{named-slot}
use Rattle.command_model.specs.Asked.{AskedOf}
use Rattle.command_model.specs.Conditions.{AtPart, ConditionOf, ChildOf, MeansSame, Unreached, NotImplements, NoSuper, VariableFree, AtomLiteral, SelectorFresh, Arity, Inlinable, PlainActuals, NoCapture, NoNewControl, Shallow}
use Rattle.command_model.specs.Parts.{Part}
use Rattle.command_model.specs.Places.{SendOf, sent_by}
use Rattle.command_model.specs.Extracted.{free_temporaries}
use Rattle.command_model.specs.CodeEffects.{part_at, send_at, target_of}
use Rattle.command_model.specs.Hierarchy.{is_class, superclass_name, receivers}
use Rattle.command_model.specs.CodeNeeds.{in_no_implementor, target_needs}
use Rattle.hierarchy_questions.proofs.OwnMethods.{own-slot}
use Rattle.command_model.specs.Needs.{needs}
use Rattle.name_meanings.specs.declared.meaning.VariableKind.TheVariants as kind
use Rattle.commands.specs.declared.command.Command.{Command}
use Rattle.commands.specs.declared.command.Command.TheVariants as command
use Rattle.commands.specs.declared.command.Renaming.TheVariants as renaming
use Rattle.commands.specs.declared.command.VariableMove.TheVariants as move
use Rattle.commands.specs.declared.command.CodeMove.TheVariants as code
use Rattle.commands.specs.declared.command.MethodPart.{MethodPart}
use Rattle.commands.specs.declared.condition.Condition.{Condition}
use Rattle.commands.specs.Views.{asked_by, command_of, condition_of}
use Rattle.conditions.specs.Concerns.{Concerns}
use Rattle.conditions.proofs.Unnamed.{unnamed-each}

-- a fact of each condition of the program
shown : (P : ConditionOf ℕ → Type 0) (cs : List Condition) → AllByRecursion P (map condition_of cs) → AllByRecursion (λ c. P (condition_of c)) cs
shown P [] all = tt
shown P (c ∷ cs) all = (all.0, shown P cs all.1)

-- a fact of each of those that are found
pub found-all : (P : ConditionOf ℕ → Type 0) (needed : List (ConditionOf ℕ)) (items : List Condition) → AllByRecursion P needed → map condition_of items ≡ needed → AllByRecursion (λ c. P (condition_of c)) items
found-all P needed items all found = shown P items (subst (AllByRecursion P) (sym found) all)

-- of each item of a mapped list
each : {X Y : Type 0} (P : Y → Type 0) (f : X → Y) → ((x : X) → P (f x)) → (xs : List X) → AllByRecursion P (map f xs)
each P f h [] = tt
each P f h (x ∷ xs) = (h x, each P f h xs)

-- of two lists, one behind the other
joined : {X : Type 0} (P : X → Type 0) (xs ys : List X) → AllByRecursion P xs → AllByRecursion P ys → AllByRecursion P (xs ++ ys)
joined P [] ys a b = b
joined P (x ∷ xs) ys a b = (a.0, joined P xs ys a.1 b)

-- of what there is where there is a superclass
given : (P : ConditionOf ℕ → Type 0) (f : ℕ → List (ConditionOf ℕ)) → ((p : ℕ) → AllByRecursion P (f p)) → (o : Option ℕ) → AllByRecursion P (option_map_or f o [])
given P f h None = tt
given P f h (Some p) = h p

module _ (s : Slots) (orderly : IsOrderly s) where
  abbrev a : AskedOf ℕ
  a = asked_by s.names

  abbrev i : ImageOf ℕ
  i = number_image s

  -- where a message stands in a method of the user, there is the class of the method
  sent-class : (c : ℕ) (meta : Bool) (t from to : ℕ) (e : EntryOf ℕ × SendOf ℕ) → send_at a i c meta t from to ≡ Some e → is_class nat_eq i c ≡ true
  sent-class c meta t from to e = by (own_method nat_eq i.methods c meta t) refl
    where
      slot : (o : Option ℕ) → named_in s.classes s.class_order c ≡ o → (m : EntryOf ℕ) → option_and_then (entry_at s) (option_and_then (λ k. method_in s.methods s.method_order (record { class = k; meta = meta; selector = t })) o) ≡ Some m → is_class nat_eq i c ≡ true
      slot None q m h = absurd (cc)
      slot (Some k) q m h =
          let l = (named-slot s.classes s.class_order c k q).0 in
          let r = there s.classes k (orderly.class_order.below k l) in
          ap is_some (class_named-named_in s c ∙ ap (option_and_then (class_at s)) q ∙ ap (option_map (class_of s.classes)) r.1)

      sent : Option (EntryOf ℕ) → Option (EntryOf ℕ × SendOf ℕ)
      sent o =
          option_and_then (λ (x : EntryOf ℕ × Part). option_map (λ y. (x.0, y)) (sent_by x.0.tree x.1))
          (option_and_then (λ (m : EntryOf ℕ). option_map (λ p. (m, p)) (a.part_of m.source from to)) (option_and_then (λ (m : EntryOf ℕ). if m.kernel then None else Some m) o))

      missing : sent None ≡ Some e → is_class nat_eq i c ≡ true
      missing h = absurd (cc)

      by : (o : Option (EntryOf ℕ)) → own_method nat_eq i.methods c meta t ≡ o → send_at a i c meta t from to ≡ Some e → is_class nat_eq i c ≡ true
      by None q h = missing (sym (ap sent q) ∙ h)
      by (Some m) q h = slot (named_in s.classes s.class_order c) refl m (sym (own-slot s orderly c meta t) ∙ q)

  -- what is asked of a message, and of the method that it finds, is asked of the command
  module _ (p : MethodPart) where
    abbrev P : ConditionOf ℕ → Type 0
    P = Concerns i (command_of (command.MoveCode (code.InlineMethod p)))

    inlinable-concerned : (meta : Bool) (t : ℕ) (rest : List (ConditionOf ℕ)) (o : Option ℕ) → AllByRecursion P rest → AllByRecursion P (option_map_or (λ d. Inlinable d meta t ∷ []) o [] ++ rest)
    inlinable-concerned meta t rest None all = all
    inlinable-concerned meta t rest (Some d) all = (tt, all)

    abbrev behind : List (ConditionOf ℕ)
    behind =
        PlainActuals p.method.class p.method.meta p.method.selector p.from p.to ∷ NoCapture p.method.class p.method.meta p.method.selector (AtPart p.from p.to)
        ∷ NoNewControl p.method.class p.method.meta p.method.selector (AtPart p.from p.to) ∷ Shallow ∷ []

    found-concerned : (t : ℕ) (o : Option (EntryOf ℕ)) → AllByRecursion P (option_map_or (λ (target : EntryOf ℕ). option_map_or (λ d. Inlinable d target.meta t ∷ []) target.class [] ++ behind) o [])
    found-concerned t None = tt
    found-concerned t (Some target) = inlinable-concerned target.meta t behind target.class (tt, (tt, (tt, (tt, tt))))

    sent-concerned : (o : Option (EntryOf ℕ × SendOf ℕ)) → send_at a i p.method.class p.method.meta p.method.selector p.from p.to ≡ o
        → AllByRecursion P (option_map_or (λ (e : EntryOf ℕ × SendOf ℕ). target_needs a i p.method.class p.method.meta p.method.selector p.from p.to e.1) o [])
    sent-concerned None q = tt
    sent-concerned (Some e) q =
        (sent-class p.method.class p.method.meta p.method.selector p.from p.to e q, found-concerned e.1.selector (target_of a i p.method.class p.method.meta e.1))

  -- each condition of a command is asked of it
  pub concerned : (c : Command) → AllByRecursion (Concerns i (command_of c)) (needs a i (command_of c))
  concerned (command.Rename (renaming.Class c d)) = (tt, (tt, (tt, (tt, tt))))
  concerned (command.Rename (renaming.Variable kind.Instance c x y)) = (tt, (tt, (tt, (tt, (tt, tt)))))
  concerned (command.Rename (renaming.Variable kind.ClassSide c x y)) = (tt, (tt, (tt, (tt, (tt, tt)))))
  concerned (command.Rename (renaming.Variable kind.Shared c x y)) = (tt, (tt, (tt, (tt, (tt, tt)))))
  concerned (command.Rename (renaming.Selector s t)) = (tt, (tt, (tt, (tt, (tt, (tt, (tt, tt)))))))
  concerned (command.AddClass n) = (tt, (tt, (tt, (tt, each (Concerns i (command_of (command.AddClass n))) (λ s. ChildOf s n.superclass) (λ s. tt) n.under))))
  concerned (command.RemoveClass c) = (tt, (tt, (tt, (tt, tt))))
  concerned (command.Variable (move.Add kind.Instance c x)) = (tt, (tt, (tt, (tt, tt))))
  concerned (command.Variable (move.Add kind.ClassSide c x)) = (tt, (tt, (tt, (tt, tt))))
  concerned (command.Variable (move.Add kind.Shared c x)) = (tt, (tt, (tt, (tt, tt))))
  concerned (command.Variable (move.Remove kind.Instance c x)) = (tt, (tt, (tt, (tt, tt))))
  concerned (command.Variable (move.Remove kind.ClassSide c x)) = (tt, (tt, (tt, (tt, tt))))
  concerned (command.Variable (move.Remove kind.Shared c x)) = (tt, (tt, (tt, (tt, tt))))
  concerned (command.Variable (move.InstanceUp c x)) =
      (tt, (tt, (tt, (tt, given (Concerns i (command_of (command.Variable (move.InstanceUp c x)))) (λ p. VariableFree p x ∷ []) (λ p. (tt, tt)) (superclass_name a.words.tests.same i c)))))
  concerned (command.Variable (move.InstanceDown c x)) = (tt, (tt, (tt, (tt, tt))))
  concerned (command.Variable (move.SharedUp c x)) =
      (tt, (tt, (tt, (tt, given (Concerns i (command_of (command.Variable (move.SharedUp c x)))) (λ p. VariableFree p x ∷ []) (λ p. (tt, tt)) (superclass_name a.words.tests.same i c)))))
  concerned (command.Variable (move.SharedDown c x d)) = (tt, (tt, (tt, (tt, (tt, (tt, tt))))))
  concerned (command.AddMethod n) = (tt, (tt, (tt, (refl, tt))))
  concerned (command.RemoveMethod m) = (tt, (tt, (tt, (tt, tt))))
  concerned (command.PushUpMethod m) = (
    tt,
    (
      tt,
      (
        tt,
        (
          tt,
          given (Concerns i (command_of (command.PushUpMethod m)))
              (λ p. NotImplements p m.meta m.selector ∷ NoSuper m.class m.meta m.selector ∷ MeansSame m.class m.meta m.selector p ∷ Unreached m.selector ∷ []) (λ p. (tt, (tt, (tt, (refl, tt)))))
              (superclass_name a.words.tests.same i m.class),
        ),
      ),
    ),
  )
  concerned (command.PushDownMethod m) = (
    tt,
    (
      tt,
      (
        tt,
        (
          tt,
          joined (Concerns i (command_of (command.PushDownMethod m))) (map (MeansSame m.class m.meta m.selector) (receivers a.words.tests.same i m.class m.meta m.selector)) (Unreached m.selector ∷ [])
              (each (Concerns i (command_of (command.PushDownMethod m))) (MeansSame m.class m.meta m.selector) (λ d. tt) (receivers a.words.tests.same i m.class m.meta m.selector)) (refl, tt),
        ),
      ),
    ),
  )
  concerned (command.AddParameter n) =
      let P = Concerns i (command_of (command.AddParameter n)) in
      (tt, (tt, (tt, (tt, (tt, (tt, (tt, (tt, joined P (in_no_implementor a i n.selector n.parameter) (AtomLiteral ∷ Shallow ∷ []) (unnamed-each P a i n.selector n.parameter (λ c meta. tt)) (tt, (tt, tt))))))))))
  concerned (command.RemoveParameter s k t) = (tt, (tt, (tt, (tt, (tt, (tt, (tt, (tt, (tt, tt)))))))))
  concerned (command.RenameTemporary m x y) = (tt, (tt, (tt, (tt, (tt, (tt, tt))))))
  concerned (command.MoveCode (code.AbstractVariable c x setter given)) = (tt, (tt, (tt, (tt, (tt, (tt, (tt, (tt, tt))))))))
  concerned (command.MoveCode (code.ExtractMethod p t)) =
      (tt, (tt, (tt, (tt, (tt, (tt, (tt, (tt, (tt, (tt, by (part_at a i p.method.class p.method.meta p.method.selector p.from p.to)))))))))))
    where
      by : (o : Option (EntryOf ℕ × Part)) → AllByRecursion (Concerns i (command_of (command.MoveCode (code.ExtractMethod p t)))) (option_map_or (λ e. Arity t (length (free_temporaries a e.0.tree e.1)) ∷ SelectorFresh t ∷ Shallow ∷ []) o [])
      by None = tt
      by (Some e) = (tt, (tt, (tt, tt)))
  concerned (command.MoveCode (code.InlineMethod p)) = (tt, (tt, (tt, (tt, sent-concerned p (send_at a i p.method.class p.method.meta p.method.selector p.from p.to) refl))))
  concerned (command.MoveCode (code.ExtractTemporary p x)) = (tt, (tt, (tt, (tt, (tt, (tt, (tt, (tt, tt))))))))
  concerned (command.MoveCode (code.InlineTemporary m x)) = (tt, (tt, (tt, (tt, (tt, (tt, (tt, (tt, tt))))))))
