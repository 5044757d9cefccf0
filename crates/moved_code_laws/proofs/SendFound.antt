-- The message that a command names, and what `inlineMethod` makes of its method.
use Rattle.std.proofs.Common.{◌≡◌, ℕ, List, Option, Some, None, refl, sym, ap, ◌∙◌, subst}
use Rattle.std.specs.Prelude.{Bool, true, option_and_then, option_map, unwrap_or, codes}
use Rattle.std.specs.Option.{option_or}
use Rattle.std.proofs.lemmas.Bool.{false≢true}
use Rattle.rb_base.specs.Names.{text_eq}
use Rattle.tree_model.specs.Tree.{TreeOf, var, literal, send, cascade, assign, block, brace, return, TreesOf, StatementsOf, no_statements, more_statements, MethodOf, Notes}
use Rattle.tree_model.specs.Path.{part_in, method_replaced}
use Rattle.image_model.specs.Image.{EntryOf, ImageOf}
use Rattle.run_model.specs.Values.{Name}
use Rattle.run_model.proofs.RenamingLemmas.{text-same}
use Rattle.rename_model.specs.ClassRenamed.{WritingOf}
use Rattle.unfolded_calls.proofs.Running.{none-some, some-same}
use Rattle.command_model.specs.Asked.{text_asked}
use Rattle.command_model.specs.Parts.{Part, Expression, Run}
use Rattle.command_model.specs.Places.{users_method, SendOf, as_send, sent_by, sequence_round, whole_statement}
use Rattle.command_model.specs.Walk.{onward, rebuilt, rebuilt_statements}
use Rattle.command_model.specs.Sequences.{put_for, sequence_changed, with_tree}
use Rattle.command_model.specs.Inlined.{answered, last_unanswered, filled, unfolded, tree_inlined}
use Rattle.command_model.specs.CodeEffects.{send_at, target_of}
use Rattle.command_model.specs.InlineConditions.{is_self_send}
use Rattle.command_model.specs.Commands.{InlineMethod}
use Rattle.command_model.specs.Effects.{effect}

-- a message to `self`
pub self-receiver : (i : ImageOf Name) (path : List ℕ) (r : TreeOf Name) (s : Name) (args : TreesOf Name) → is_self_send text_asked i (record { path = path; receiver = r; selector = s; arguments = args }) ≡ true → r ≡ var (codes "self")
self-receiver i path (var n) s args e = ap (λ x. var x) (sym (text-same (codes "self") n e))
self-receiver i path (literal l) s args e = absurd (false≢true e)
self-receiver i path (send r t us) s args e = absurd (false≢true e)
self-receiver i path (cascade r ms) s args e = absurd (false≢true e)
self-receiver i path (assign n t) s args e = absurd (false≢true e)
self-receiver i path (block ps ts ss c) s args e = absurd (false≢true e)
self-receiver i path (brace ts) s args e = absurd (false≢true e)
self-receiver i path (return t) s args e = absurd (false≢true e)

-- statements that answer an expression
pub answered-so : (ss : StatementsOf Name) (t : TreeOf Name) → answered ss ≡ Some t → (c : Notes) × (ss ≡ more_statements c (return t) no_statements)
answered-so no_statements t e = none-some e
answered-so (more_statements c u ss) t e = by u ss e
  where
    by : (u : TreeOf Name) (ss : StatementsOf Name) → answered (more_statements c u ss) ≡ Some t → (d : Notes) × (more_statements c u ss ≡ more_statements d (return t) no_statements)
    by (return u) no_statements e = (c, ap (λ x. more_statements c (return x) no_statements) (some-same e))
    by (return u) (more_statements b v rs) e = none-some e
    by (var n) no_statements e = none-some e
    by (var n) (more_statements b v rs) e = none-some e
    by (literal l) no_statements e = none-some e
    by (literal l) (more_statements b v rs) e = none-some e
    by (send r s args) no_statements e = none-some e
    by (send r s args) (more_statements b v rs) e = none-some e
    by (cascade r ms) no_statements e = none-some e
    by (cascade r ms) (more_statements b v rs) e = none-some e
    by (assign n u) no_statements e = none-some e
    by (assign n u) (more_statements b v rs) e = none-some e
    by (block ps ts us d) no_statements e = none-some e
    by (block ps ts us d) (more_statements b v rs) e = none-some e
    by (brace us) no_statements e = none-some e
    by (brace us) (more_statements b v rs) e = none-some e

-- where a message stands
pub record StandsAt (m : EntryOf Name) (e : SendOf Name) : Type 0 where
  pub there : part_in m.tree.body e.path ≡ Some (send e.receiver e.selector e.arguments)

-- the expression that stands in place of a message
abbrev pub expression_of : EntryOf Name → SendOf Name → TreeOf Name → TreeOf Name
expression_of target e answer = rebuilt (onward 0 (onward 0 (filled text_asked target.tree e.arguments))) answer

pub unfolded-so : (target : EntryOf Name) (args : TreesOf Name) (note : Notes) (answer : TreeOf Name) → target.tree.body.statements ≡ more_statements note (return answer) no_statements →
    answered (unfolded text_asked target.tree args) ≡ Some (rebuilt (onward 0 (onward 0 (filled text_asked target.tree args))) answer)
unfolded-so target args note answer answers = ap (λ ss. answered (rebuilt_statements (filled text_asked target.tree args) 0 ss)) answers

module _ (i : ImageOf Name) (c : Name) (meta : Bool) (s : Name) (from to : ℕ) where
  -- the message of a node
  node-sent : (m : EntryOf Name) (path : List ℕ) (x : EntryOf Name × SendOf Name) (o : Option (TreeOf Name)) → part_in m.tree.body path ≡ o → option_map (λ e. (m, e)) (option_and_then (as_send path) o) ≡ Some x → (m ≡ x.0) × StandsAt x.0 x.1
  node-sent m path x None q e = none-some e
  node-sent m path x (Some t) q e = by t q e
    where
      by : (t : TreeOf Name) → part_in m.tree.body path ≡ Some t → option_map (λ e. (m, e)) (as_send path t) ≡ Some x → (m ≡ x.0) × StandsAt x.0 x.1
      by (send r u args) q e = (ap (λ (y : EntryOf Name × SendOf Name). y.0) (some-same e), subst (λ (y : EntryOf Name × SendOf Name). StandsAt y.0 y.1) (some-same e) (record { there = q }))
      by (var n) q e = none-some e
      by (literal l) q e = none-some e
      by (cascade r ms) q e = none-some e
      by (assign n u) q e = none-some e
      by (block ps ts ss d) q e = none-some e
      by (brace ts) q e = none-some e
      by (return u) q e = none-some e

  -- the message that the command names stands in the user's method
  pub send-there : (x : EntryOf Name × SendOf Name) → send_at text_asked i c meta s from to ≡ Some x → (users_method text_eq i c meta s ≡ Some x.0) × StandsAt x.0 x.1
  send-there x = by (users_method text_eq i c meta s)
    where
      by-part : (m : EntryOf Name) (o : Option Part) → option_and_then (λ (e : EntryOf Name × Part). option_map (λ y. (e.0, y)) (sent_by e.0.tree e.1)) (option_map (λ p. (m, p)) o) ≡ Some x → (m ≡ x.0) × StandsAt x.0 x.1
      by-part m None e = none-some e
      by-part m (Some (Expression path)) e = node-sent m path x (part_in m.tree.body path) refl e
      by-part m (Some (Run path first count)) e = none-some e

      by : (o : Option (EntryOf Name)) → option_and_then (λ (e : EntryOf Name × Part). option_map (λ y. (e.0, y)) (sent_by e.0.tree e.1)) (option_and_then (λ (m : EntryOf Name). option_map (λ p. (m, p)) (text_asked.part_of m.source from to)) o) ≡ Some x → (o ≡ Some x.0) × StandsAt x.0 x.1
      by None e = none-some e
      by (Some m) e = let r = by-part m (text_asked.part_of m.source from to) e in (ap Some r.0, r.1)

  module _ (x : EntryOf Name × SendOf Name) (sent : send_at text_asked i c meta s from to ≡ Some x) (target : EntryOf Name) (finds : target_of text_asked i c meta x.1 ≡ Some target) (note : Notes) (answer : TreeOf Name)
      (answers : target.tree.body.statements ≡ more_statements note (return answer) no_statements) where
    -- the tree of the method after
    abbrev pub tree_after : MethodOf Name
    tree_after = method_replaced x.0.tree x.1.path (expression_of target x.1 answer)

    inlined-so : tree_inlined text_asked x.0.tree x.1 target.tree ≡ Some tree_after
    inlined-so =
        ap (λ o. option_or (option_map (λ t. method_replaced x.0.tree x.1.path t) o)
        (option_map (λ k. sequence_changed (put_for k (last_unanswered (unfolded text_asked target.tree x.1.arguments))) (sequence_round x.0.tree x.1.path) x.0.tree) (whole_statement x.0.tree x.1.path)))
        (unfolded-so target x.1.arguments note answer answers)

    -- the image after
    pub effect-so : (writing : WritingOf Name) → effect text_asked writing (InlineMethod c meta s from to) i ≡ with_tree text_eq writing c meta s tree_after i
    effect-so writing =
        ap (λ o. unwrap_or (option_map (λ tree. with_tree text_eq writing c meta s tree i) (option_and_then (λ (m : EntryOf Name). option_and_then (λ (e : EntryOf Name × SendOf Name). option_and_then (λ (n : EntryOf Name). tree_inlined text_asked m.tree e.1 n.tree) (target_of text_asked i c meta e.1)) (send_at text_asked i c meta s from to)) o)) i)
        (send-there x sent).0
        ∙ ap (λ o. unwrap_or (option_map (λ tree. with_tree text_eq writing c meta s tree i) (option_and_then (λ (e : EntryOf Name × SendOf Name). option_and_then (λ (n : EntryOf Name). tree_inlined text_asked x.0.tree e.1 n.tree) (target_of text_asked i c meta e.1)) o)) i) sent
        ∙ ap (λ o. unwrap_or (option_map (λ tree. with_tree text_eq writing c meta s tree i) (option_and_then (λ (n : EntryOf Name). tree_inlined text_asked x.0.tree x.1 n.tree) o)) i) finds
        ∙ ap (λ o. unwrap_or (option_map (λ tree. with_tree text_eq writing c meta s tree i) o) i) inlined-so
