-- The normal form of a method's comments.
use Rattle.std.proofs.Common.{◌≡◌, refl, sym, ap, ◌∙◌, List, [], ◌∷◌, ◌++◌, map}
use Rattle.std.proofs.lemmas.List.{append-nil}
use Rattle.tree_model.specs.Tree.{Notes, StatementsOf, no_statements, more_statements, MethodOf, map_method, map_sequence, map_statements}
use Rattle.tree_model.specs.Bare.{bare_sequence, bare_method}
use Rattle.tree_model.specs.Normal.{leading_of, leading, without_leading_of, without_leading, normal_by, normal, IsNormal}

module _ {N : Type 0} where
  -- nothing is left where the first comments were
  leading-without_leading_of : (ts : List N) (ss : StatementsOf N) (tail : Notes) → leading (without_leading_of ts ss tail) ≡ []
  leading-without_leading_of ts no_statements tail = refl
  leading-without_leading_of ts (more_statements c t ss) tail = refl

  -- where there are no first comments, none are taken
  without_leading_of-none : (ts : List N) (ss : StatementsOf N) (tail : Notes) → leading_of ss tail ≡ [] → without_leading_of ts ss tail ≡ record { temporaries = ts; statements = ss; tail = tail }
  without_leading_of-none ts no_statements tail e = λ i. record { temporaries = ts; statements = no_statements; tail = sym e i }
  without_leading_of-none ts (more_statements c t ss) tail e = λ i. record { temporaries = ts; statements = more_statements (sym e i) t ss; tail = tail }

  -- taking the first comments leaves the rest
  bare_sequence-without_leading_of : (ts : List N) (ss : StatementsOf N) (tail : Notes) → bare_sequence (without_leading_of ts ss tail) ≡ bare_sequence (record { temporaries = ts; statements = ss; tail = tail })
  bare_sequence-without_leading_of ts no_statements tail = refl
  bare_sequence-without_leading_of ts (more_statements c t ss) tail = refl

  IsNormal-normal_by : (ts : List N) (m : MethodOf N) → m.body.temporaries ≡ ts → IsNormal (normal_by ts m)
  IsNormal-normal_by [] m e none = leading-without_leading_of m.body.temporaries m.body.statements m.body.tail
  IsNormal-normal_by (n ∷ ns) m e none = cc

  -- the normal form is normal
  pub IsNormal-normal : (m : MethodOf N) → IsNormal (normal m)
  IsNormal-normal m = IsNormal-normal_by m.body.temporaries m refl

  normal_by-IsNormal : (ts : List N) (m : MethodOf N) → m.body.temporaries ≡ ts → IsNormal m → normal_by ts m ≡ m
  normal_by-IsNormal [] m e is =
      λ i. record m { head = (ap (λ (c : Notes). m.head ++ c) (is e) ∙ append-nil m.head) i; body = without_leading_of-none m.body.temporaries m.body.statements m.body.tail (is e) i }
  normal_by-IsNormal (n ∷ ns) m e is = refl

  -- a normal method stays as it is
  pub normal-IsNormal : (m : MethodOf N) → IsNormal m → normal m ≡ m
  normal-IsNormal m is = normal_by-IsNormal m.body.temporaries m refl is

  -- the normal form of the normal form
  pub normal-normal : (m : MethodOf N) → normal (normal m) ≡ normal m
  normal-normal m = normal-IsNormal (normal m) (IsNormal-normal m)

  bare_method-normal_by : (ts : List N) (m : MethodOf N) → bare_method (normal_by ts m) ≡ bare_method m
  bare_method-normal_by [] m = λ i. record m { head = []; body = bare_sequence-without_leading_of m.body.temporaries m.body.statements m.body.tail i }
  bare_method-normal_by (n ∷ ns) m = refl

  -- the normal form differs in comments alone
  pub bare_method-normal : (m : MethodOf N) → bare_method (normal m) ≡ bare_method m
  bare_method-normal m = bare_method-normal_by m.body.temporaries m

module _ {M N : Type 0} (f : M → N) where
  leading_of-map_statements : (ss : StatementsOf M) (tail : Notes) → leading_of (map_statements f ss) tail ≡ leading_of ss tail
  leading_of-map_statements no_statements tail = refl
  leading_of-map_statements (more_statements c t ss) tail = refl

  without_leading-map_sequence : (ts : List M) (ss : StatementsOf M) (tail : Notes)
      → without_leading (map_sequence f (record { temporaries = ts; statements = ss; tail = tail })) ≡ map_sequence f (without_leading_of ts ss tail)
  without_leading-map_sequence ts no_statements tail = refl
  without_leading-map_sequence ts (more_statements c t ss) tail = refl

  normal_by-map_method : (ts : List M) (m : MethodOf M) → normal_by (map f ts) (map_method f m) ≡ map_method f (normal_by ts m)
  normal_by-map_method [] m =
      λ i. record {
        selector = f m.selector;
        arguments = map f m.arguments;
        head = m.head ++ leading_of-map_statements m.body.statements m.body.tail i;
        primitive = m.primitive;
        body = without_leading-map_sequence m.body.temporaries m.body.statements m.body.tail i;
      }
  normal_by-map_method (n ∷ ns) m = refl

  -- the change of names keeps the normal form
  pub normal-map_method : (m : MethodOf M) → normal (map_method f m) ≡ map_method f (normal m)
  normal-map_method m = normal_by-map_method m.body.temporaries m
