-- A sequence that sets a temporary once, and the sequence without it, in which what it was set to stands where it was read.
use Rattle.std.specs.Prelude.{◌≡◌, ℕ, false, List, [], ◌∷◌, ◌++◌, None, Some, codes}
use Rattle.rb_base.specs.Names.{text_eq}
use Rattle.tree_model.specs.Tree.{TreeOf, var, assign, block, StatementsOf, more_statements, SequenceOf, MethodOf, Notes}
use Rattle.tree_model.specs.Path.{part_in, method_replaced}
use Rattle.scope_model.specs.SpecialNames.{is_pseudo_variable}
use Rattle.image_model.specs.Means.{MeaningOf}
use Rattle.run_model.specs.Values.{Name}
use Rattle.resolved_model.specs.Environments.{Declared, opened, kind_in}
use Rattle.unfolded_calls.specs.Unfolding.{StandIn}
use Rattle.unfolded_places.specs.Becoming.{Change, BecomeLines}
use Rattle.unfolded_places.specs.Inlining.{PlainActual, IsFreeOf}
use Rattle.unfolded_places.specs.PartsReplaced.{declared_among}
use Rattle.let_laws.specs.ReadsFirst.{IsWithout, LinesWithout, ReadsFirst}

-- names other than x
pub data OtherName (x : Name) : List Declared → List Declared → TreeOf Name → TreeOf Name → Type 0 where
  other_name : {A B : List Declared} (n : Name) → text_eq n x ≡ false → OtherName x A B (var n) (var n)

-- the change of code in which x is neither read nor assigned
abbrev pub without : Name → Change
without x = record { part = OtherName x; sends = λ s. Unit {0}; assigns = λ A B n. text_eq n x ≡ false; returns = Unit {0}; supers = Unit {0}; stores = λ A B s n. ⊥ }

-- names other than x; and x, which no scope further in declares, and the plain e, of which none declares a name
pub data ValuePart (x : Name) (e : TreeOf Name) (A B : List Declared) : List Declared → List Declared → TreeOf Name → TreeOf Name → Type 0 where
  value_other : {C D : List Declared} (n : Name) → text_eq n x ≡ false → ValuePart x e A B C D (var n) (var n)
  value_read : (inner : List Declared) → kind_in inner x ≡ None → IsFreeOf inner e → ValuePart x e A B (inner ++ A) (inner ++ B) (var x) e

-- the change of code in which e stands for the reads of x, which is not assigned
abbrev pub valued : Name → TreeOf Name → List Declared → List Declared → Change
valued x e A B = record { part = ValuePart x e A B; sends = λ s. Unit {0}; assigns = λ C D n. text_eq n x ≡ false; returns = Unit {0}; supers = Unit {0}; stores = λ C D s n. ⊥ }

-- f is what names mean outside all scopes; the temporary x is declared in A, and B is A without it
module _ (f : Name → MeaningOf Name) (x : Name) (A B : List Declared) where
  -- The statements of the scope of x, and those without the one that sets it. Statements before have no x. What it is set to is plain, and stands for each read; or the next statement reads it first and no other one does.
  pub data LetLines : StatementsOf Name → StatementsOf Name → Type 0 where
    let_later : {ss ss' : StatementsOf Name} (c c' : Notes) (t : TreeOf Name) → IsWithout x t → LetLines ss ss' → LetLines (more_statements c t ss) (more_statements c' t ss')
    let_value : {ss' : StatementsOf Name} (c d : Notes) (e : TreeOf Name) (a : StandIn) (t : TreeOf Name) (ss : StatementsOf Name) → PlainActual f B e a → IsWithout x e → BecomeLines (valued x e A B) A B (more_statements d t ss) ss' →
        LetLines (more_statements c (assign x e) (more_statements d t ss)) ss'
    let_first : {t t' : TreeOf Name} (n : ℕ) (c d d' : Notes) (e : TreeOf Name) (ss : StatementsOf Name) → IsWithout x e → (e ≡ var (codes "super") → ⊥) → ReadsFirst f B x e n t t' → LinesWithout x ss →
        LetLines (more_statements c (assign x e) (more_statements d t ss)) (more_statements d' t' ss)

-- A sequence with arguments, among these declarations, and the one without a temporary, which is declared nowhere else round it.
pub record IsLet (f : Name → MeaningOf Name) (around : List Declared) (ps : List Name) (b b' : SequenceOf Name) : Type 0 where
  pub temporary : Name
  pub proper : is_pseudo_variable temporary ≡ false
  pub front : List Name
  pub back : List Name
  pub before : b.temporaries ≡ front ++ temporary ∷ back
  pub after : b'.temporaries ≡ front ++ back
  pub alone : kind_in (opened ps front [] ++ opened [] back around) temporary ≡ None
  pub lines : LetLines f temporary (opened ps front [] ++ opened [] (temporary ∷ back) around) (opened ps front [] ++ opened [] back around) b.statements b'.statements

-- a method, and the one in which its body, or the sequence of a block where a path leads, is another one so
pub data LetIn (f : Name → MeaningOf Name) (m : MethodOf Name) : MethodOf Name → Type 0 where
  let_in_body : (b' : SequenceOf Name) → IsLet f [] m.arguments m.body b' → LetIn f m (record m { body = b' })
  let_in_block : (path : List ℕ) (ps : List Name) (b b' : SequenceOf Name) → part_in m.body path ≡ Some (block ps b.temporaries b.statements b.tail) →
      IsLet f (declared_among (opened m.arguments m.body.temporaries []) m.body.statements path) ps b b' → LetIn f m (method_replaced m path (block ps b'.temporaries b'.statements b'.tail))
