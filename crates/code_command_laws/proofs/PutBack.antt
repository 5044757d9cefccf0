-- An expression that becomes a method, and is put back.
use Rattle.std.proofs.Common.{◌≡◌, ℕ, List, [], map, Option, Some, None, option_map, option_and_then, ap, ◌∙◌, refl}
use Rattle.std.specs.Option.{option_or, option_map_or}
use Rattle.tree_model.specs.Tree.{TreeOf, var, return, trees_of, StatementsOf, no_statements, MethodOf}
use Rattle.tree_model.specs.Path.{part_in, method_replaced}
use Rattle.tree_model.specs.Normal.{normal}
use Rattle.tree_model.proofs.Parts.{part_in-replaced_in, replaced_in-replaced_in, replaced_in-part_in}
use Rattle.command_model.specs.Parts.{Expression}
use Rattle.command_model.specs.Asked.{AskedOf}
use Rattle.command_model.specs.Places.{SendOf, sent_by, as_send, sequence_round, whole_statement}
use Rattle.command_model.specs.Sequences.{single, put_for, sequence_changed}
use Rattle.command_model.specs.Extracted.{part_replaced, call_of, method_of, free_temporaries}
use Rattle.command_model.specs.Inlined.{unfolded, filled, answered, last_unanswered}
use Rattle.code_command_laws.specs.Folded.{TellsApart, IsPutBack}
use Rattle.code_command_laws.proofs.Rebuilt.{rebuilt_statements-same}
use Rattle.code_command_laws.proofs.Passed.{filled-itself}

module _ {N : Type 0} (a : AskedOf N) (t : N) (m : MethodOf N) (path : List ℕ) where
  -- the message, and the method that the expression becomes
  abbrev call : TreeOf N
  call = call_of a t m (Expression path)

  abbrev changed : MethodOf N
  changed = part_replaced m (Expression path) call

  abbrev new : MethodOf N
  new = method_of a t m (Expression path)

  abbrev message : SendOf N
  message = record { path = path; receiver = var a.self_name; selector = t; arguments = trees_of (map (λ x. var x) (free_temporaries a m (Expression path))) }

  -- the message stands there
  stands : (part : TreeOf N) → part_in m.body path ≡ Some part → sent_by changed (Expression path) ≡ Some message
  stands part e = ap (λ (o : Option (TreeOf N)). option_and_then (as_send path) o) (part_in-replaced_in m.body path part call e)

  -- the method answers the expression
  body_of_new : (part : TreeOf N) → part_in m.body path ≡ Some part → new.body.statements ≡ single (return part)
  body_of_new part e =
      ap (λ (o : Option (TreeOf N)). (normal (record {
        selector = t;
        arguments = free_temporaries a m (Expression path);
        head = [];
        primitive = None;
        body = record { temporaries = []; statements = option_map_or (λ u. single (return u)) o no_statements; tail = [] };
      })).body.statements) e

  -- with the names passed under their own names
  unfolded_new : TellsApart a.words.tests.same → (part : TreeOf N) → part_in m.body path ≡ Some part → unfolded a new message.arguments ≡ single (return part)
  unfolded_new tells part e =
      rebuilt_statements-same (filled a new message.arguments) (filled-itself a tells new) 0 new.body.statements ∙ body_of_new part e

  -- what is put in place of the message, by the statements that the method has then
  abbrev put_back : StatementsOf N → Option (MethodOf N)
  put_back ss =
      option_or (option_map (λ u. method_replaced changed path u) (answered ss))
      (option_map (λ k. sequence_changed (put_for k (last_unanswered ss)) (sequence_round changed path) changed) (whole_statement changed path))

  -- the method is as it was
  as_before : (part : TreeOf N) → part_in m.body path ≡ Some part → method_replaced changed path part ≡ m
  as_before part e = λ i. record m { body = (replaced_in-replaced_in m.body path call part ∙ replaced_in-part_in m.body path part e) i }

  pub is_put_back : TellsApart a.words.tests.same → (part : TreeOf N) → part_in m.body path ≡ Some part → IsPutBack a t m path
  is_put_back tells part e = record {
    message = message;
    stands = stands part e;
    is_of = refl;
    same = ap put_back (unfolded_new tells part e) ∙ ap (λ (n : MethodOf N). Some n) (as_before part e);
  }
