-- A method whose reads and assignments are made anew by a walk.
use Rattle.std.proofs.Common.{◌≡◌, ℕ, ◌+◌, false, List, [], ◌∷◌, ◌++◌, Option, Some, option_and_then, option_map, refl, sym, ap, subst, ◌∙◌, arith}
use Rattle.std.specs.Prelude.{unwrap_or}
use Rattle.tree_model.specs.Tree.{Notes, TreeOf, var, assign, StatementsOf, no_statements, more_statements, MethodOf}
use Rattle.tree_model.specs.Path.{statement_trees, part_at, part_among}
use Rattle.tree_model.specs.Normal.{leading_of, IsNormal}
use Rattle.grammar_model.specs.Words.{is_pseudo}
use Rattle.grammar_model.specs.Checks.{Known, is_fixed}
use Rattle.reread_law.specs.WellFormed.{IsWord, IsValue}
use Rattle.reread_law.specs.Declarations.{known_names}
use Rattle.file_model.specs.Filing.{Text}
use Rattle.command_model.specs.Walk.{Making, onward, rebuilt_statements, rebuilt_method}
use Rattle.code_effect_laws.proofs.Proper.{IsProper, AreProperStatements}
use Rattle.code_effect_laws.proofs.Stands.{StandsFor}
use Rattle.code_effect_laws.proofs.Places.{known_at, known_among}
use Rattle.code_effect_laws.proofs.Walked.{Leaves, Mends, AllMend, statements_walked}
use Rattle.code_effect_laws.proofs.Methods.{IsProperMethod}

-- the same of statements, by paths from them on
pub record MendsStatements (f : Making Text) (ks ls : List Known) (ss : StatementsOf Text) : Type 0 where
  pub reads : (path : List ℕ) (n : Text) → part_among (statement_trees ss) path ≡ Some (var n) → IsWord n → IsProper (known_among ss path ls) (f path (var n)) × StandsFor (var n) (f path (var n))
  pub assigns : (path : List ℕ) (n : Text) (u v : TreeOf Text) → part_among (statement_trees ss) path ≡ Some (assign n u) → IsWord n → is_pseudo n ≡ false → is_fixed (known_among ss path ks) n ≡ false →
      IsProper (known_among ss path ls) v → IsValue v → IsProper (known_among ss path ls) (f path (assign n v)) × StandsFor (assign n u) (f path (assign n v))

pub statements_mend : (f : Making Text) (ks ls : List Known) (ss : StatementsOf Text) → MendsStatements f ks ls ss → AllMend f 1 ks ls 0 (statement_trees ss)
statements_mend f ks ls ss m j p c e q = subst (λ z. Mends (onward z f) 1 ks ls c) (sym (q ∙ (let same : 0 + j ≡ j = omega arith in same))) (record {
  reads = λ path n r w. (let o =
      m.reads (j ∷ path) n (ap (option_and_then (λ x. part_at x path)) e ∙ r) w in (subst (λ zs. IsProper zs (f (j ∷ path) (var n))) (there path ls) o.0, o.1));
  assigns = λ path n u v r w ordinary free p value. (let o =
      m.assigns (j ∷ path) n u v (ap (option_and_then (λ x. part_at x path)) e ∙ r) w ordinary (ap (λ zs. is_fixed zs n) (there path ks) ∙ free) (subst (λ zs. IsProper zs v) (sym (there path ls)) p) value in
      (subst (λ zs. IsProper zs (f (j ∷ path) (assign n v))) (there path ls) o.0, o.1));
})
  where
    there : (path : List ℕ) (zs : List Known) → known_among ss (j ∷ path) zs ≡ known_at 1 c path zs
    there path zs = ap (λ (o : Option (TreeOf Text)). unwrap_or (option_map (λ x. known_at 1 x path zs) o) zs) e

pub rebuilt_proper : (f : Making Text) (ks ls : List Known) (ss : StatementsOf Text) → Leaves f → MendsStatements f ks ls ss → AreProperStatements ks ss → AreProperStatements ls (rebuilt_statements f 0 ss)
rebuilt_proper f ks ls ss l m p = statements_walked ss f 0 1 ks ls l (statements_mend f ks ls ss m) p

-- a method whose names stay known
pub rebuilt_method_proper : (f : Making Text) (m : MethodOf Text) → Leaves f → MendsStatements f (known_names m.arguments m.body.temporaries ++ []) (known_names m.arguments m.body.temporaries ++ []) m.body.statements → IsProperMethod m → IsProperMethod (rebuilt_method f m)
rebuilt_method_proper f m l mends p = record {
  pattern = p.pattern;
  head = p.head;
  body = record {
    words = p.body.words;
    once = p.body.once;
    statements = rebuilt_proper f (known_names m.arguments m.body.temporaries ++ []) (known_names m.arguments m.body.temporaries ++ []) m.body.statements l mends p.body.statements;
    notes = p.body.notes;
  };
  primitive = p.primitive;
}

-- its first comments stay
leading_rebuilt : (f : Making Text) (ss : StatementsOf Text) (tail : Notes) → leading_of (rebuilt_statements f 0 ss) tail ≡ leading_of ss tail
leading_rebuilt f no_statements tail = refl
leading_rebuilt f (more_statements c t ss) tail = refl

pub rebuilt_normal : (f : Making Text) (m : MethodOf Text) → IsNormal m → IsNormal (rebuilt_method f m)
rebuilt_normal f m is none = leading_rebuilt f m.body.statements m.body.tail ∙ is none
