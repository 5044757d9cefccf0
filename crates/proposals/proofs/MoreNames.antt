-- What is proposed, over tables of names that grow.
use Rattle.std.proofs.Common.{◌≡◌, ℕ, ◌<◌, ◌≤◌, List, [], ◌∷◌, ◌++◌, length, map, take, drop, refl, sym, ap, subst, ◌∙◌}
use Rattle.std.specs.List.{AllByRecursion}
use Rattle.std.proofs.lemmas.List.{take-append-drop, take-append-le, length-take-le}
use Rattle.rb_base.specs.Names.{name_at}
use Rattle.event_trees.specs.Naming.{Grows}
use Rattle.pattern_trees.proofs.Growing.{still_known, same_text}
use Rattle.pattern_faults.proofs.Said.{pattern_kept, pattern_known}
use Rattle.command_numbers.proofs.Restricted.{CommandNames-implies, map_command-same}
use Rattle.session_model.specs.Actions.{ActionOf, Single, CreateAccessors, ExtractSuperclass, PushUpWithMethods}
use Rattle.ruled_model.specs.RuledScripts.{Acts, Applies}
use Rattle.commands.specs.Actions.{map_action, ActionNames}
use Rattle.commands.specs.Views.{action_of}
use Rattle.certificates.specs.Asked.{command_in}
use Rattle.proposals.specs.declared.proposal.Asked.{Asked}
use Rattle.proposals.specs.declared.proposal.Asked.TheVariants as asked
use Rattle.proposals.specs.Proposed.{IsNamed, Proposed, asked_over, asked_in}

-- a fact of each name in an action follows from another
all-imply : {M : Type 0} (P Q : M → Type 0) → ((n : M) → P n → Q n) → (ns : List M) → AllByRecursion P ns → AllByRecursion Q ns
all-imply P Q h [] all = tt
all-imply P Q h (n ∷ ns) all = (h n all.0, all-imply P Q h ns all.1)

action-implies : {M : Type 0} (P Q : M → Type 0) → ((n : M) → P n → Q n) → (a : ActionOf M) → ActionNames P a → ActionNames Q a
action-implies P Q h (Single c) all = CommandNames-implies P Q h c all
action-implies P Q h (CreateAccessors c x s p) all = (h c all.0, h x all.1, h s all.2, h p all.3)
action-implies P Q h (ExtractSuperclass d p under) all = (h d all.0, h p all.1, all-imply P Q h under all.2)
action-implies P Q h (PushUpWithMethods c x) all = (h c all.0, h x all.1)

-- two functions that agree on all names of an action make the same action of it
all-same : {M N : Type 0} (f g : M → N) (ns : List M) → AllByRecursion (λ n. f n ≡ g n) ns → map f ns ≡ map g ns
all-same f g [] all = refl
all-same f g (n ∷ ns) all = λ i. all.0 i ∷ all-same f g ns all.1 i

action-same : {M N : Type 0} (f g : M → N) (a : ActionOf M) → ActionNames (λ n. f n ≡ g n) a → map_action f a ≡ map_action g a
action-same f g (Single c) all = ap Single (map_command-same f g c all)
action-same f g (CreateAccessors c x s p) all = λ i. CreateAccessors (all.0 i) (all.1 i) (all.2 i) (all.3 i)
action-same f g (ExtractSuperclass d p under) all = λ i. ExtractSuperclass (all.0 i) (all.1 i) (all-same f g under all.2 i)
action-same f g (PushUpWithMethods c x) all = λ i. PushUpWithMethods (all.0 i) (all.1 i)

module _ {names later : List (List ℕ)} (g : Grows names later) where
  -- what is asked for is known still, and the same
  named-grown : (a : Asked) → IsNamed (length names) a → IsNamed (length later) a
  named-grown (asked.Action a) h = action-implies (λ n. n < length names) (λ n. n < length later) (still_known g) (action_of a) h
  named-grown (asked.Rule r) h = (pattern_known g r.rule.pattern h.0, pattern_known g r.rule.replacement h.1)

  asked-grown : (a : Asked) → IsNamed (length names) a → asked_over later a ≡ asked_over names a
  asked-grown (asked.Action a) h =
      ap Acts (action-same (name_at later) (name_at names) (action_of a) (action-implies (λ n. n < length names) (λ n. name_at later n ≡ name_at names n) (same_text g) (action_of a) h))
  asked-grown (asked.Rule r) h =
      λ i. Applies (record (command_in names r) { rule = record { pattern = pattern_kept g r.rule.pattern h.0 i; replacement = pattern_kept g r.rule.replacement h.1 i } })

-- a table begins with its first names
first-names : (names : List (List ℕ)) (n : ℕ) → Grows (take n names) names
first-names names n = record { more = drop n names; grown = sym (take-append-drop n names) }

module _ (names : List (List ℕ)) (p : Proposed) (among : p.names ≤ length names) where
  module _ (named : IsNamed p.names p.asked) where
    named-first : IsNamed (length (take p.names names)) p.asked
    named-first = subst (λ (n : ℕ). IsNamed n p.asked) (sym (length-take-le p.names names among)) named

    -- what is proposed has its names in the table, and is what is asked for over them
    pub named-there : IsNamed (length names) p.asked
    named-there = named-grown (first-names names p.names) p.asked named-first

    pub asked-there : asked_over names p.asked ≡ asked_in names p
    asked-there = asked-grown (first-names names p.names) p.asked named-first

  -- it is the same over more names
  pub asked-later : (later : List (List ℕ)) → Grows names later → asked_in later p ≡ asked_in names p
  asked-later later g =
      ap (λ (ns : List (List ℕ)). asked_over ns p.asked) (ap (take p.names) g.grown ∙ take-append-le p.names names g.more among)
