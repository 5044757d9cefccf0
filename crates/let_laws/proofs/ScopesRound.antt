-- What is declared round a part of a method.
use Rattle.std.proofs.Common.{◌≡◌, ℕ, zero, suc, ◌+◌, List, [], ◌∷◌, ◌++◌, Option, Some, None, refl, sym, ap, ◌∙◌, append_assoc}
use Rattle.std.specs.Prelude.{false, if◌then◌else◌, option_map, option_and_then, unwrap_or}
use Rattle.std.specs.List.{list_any}
use Rattle.std.specs.Option.{option_map_or}
use Rattle.rb_base.specs.Names.{text_eq}
use Rattle.std.proofs.lemmas.List.Folds.{list_any-append}
use Rattle.tree_model.specs.Tree.{TreeOf, var, literal, send, cascade, assign, block, brace, return, StatementsOf, SequenceOf}
use Rattle.tree_model.specs.Path.{child, nth, statement_trees, part_at, with_child, replaced, statements_replaced, with_statement}
use Rattle.tree_model.proofs.Children.{child-with_child, nth-with_nth, statement_trees-with_statement}
use Rattle.scope_model.specs.declared.local.Local.TheVariants.{Argument, Temporary}
use Rattle.scope_model.specs.Scope.{PlacedScope, local_by, own_scope, entered}
use Rattle.image_model.specs.Uses.{name_used}
use Rattle.run_model.specs.Values.{Name}
use Rattle.resolved_model.specs.Environments.{Declared, opened, kind_in, declared_in}
use Rattle.resolved_model.proofs.Environments.{kind_of, kind-scopes}
use Rattle.mapped_model.proofs.NodesBelow.{Below}
use Rattle.rename_model.specs.NamesThere.{is_named_by}
use Rattle.rename_laws.proofs.Unnamed.{neither_left, neither_right}
use Rattle.unfolded_places.specs.PartsReplaced.{declared_inside, declared_round, declared_among}
use Rattle.code_command_laws.specs.Round.{InBlock, this_block, block_below}
use Rattle.code_command_laws.proofs.PartRound.{open-enters, step-in}
use Rattle.let_laws.proofs.Unnamed.{Nameless}

-- what is declared inside a node is what its own scope adds
own-declared : (depth : ℕ) (t : TreeOf Name) (rest : List (PlacedScope Name)) → declared_in (own_scope depth t ++ rest) ≡ declared_inside (declared_in rest) t
own-declared depth (var n) rest = refl
own-declared depth (literal l) rest = refl
own-declared depth (send r s args) rest = refl
own-declared depth (cascade r ms) rest = refl
own-declared depth (assign n t) rest = refl
own-declared depth (block ps ts ss e) rest = refl
own-declared depth (brace ts) rest = refl
own-declared depth (return t) rest = refl

-- what is declared round a statement of a block
pub declared-inside : {part : TreeOf Name} {ps : List Name} {b : SequenceOf Name} {k : ℕ} {s : TreeOf Name} {ks : List ℕ} {t : TreeOf Name} {js : List ℕ} (depth : ℕ) (rest : List (PlacedScope Name)) → InBlock part ps b k s ks t js →
    declared_in (entered depth t (js ++ k ∷ ks) ++ rest) ≡ opened ps b.temporaries (declared_round (declared_in rest) t js)
declared-inside {ps = ps} {b = b} {k = k} {s = s} {ks = ks} depth rest (this_block e p) =
    ap (λ l. declared_in (l ++ rest)) (step-in depth (block ps b.temporaries b.statements b.tail) s k ks e ∙ ap (λ l. l ++ own_scope depth (block ps b.temporaries b.statements b.tail)) (open-enters (depth + 1) p))
declared-inside {ps = ps} {b = b} {k = k} {ks = ks} depth rest (block_below {t = t} {c = c} {j = j} {js = js} e p) =
    ap (λ l. declared_in (l ++ rest)) (step-in depth t c j (js ++ k ∷ ks) e)
    ∙ ap declared_in (append_assoc (entered (depth + 1) c (js ++ k ∷ ks)) (own_scope depth t) rest)
    ∙ declared-inside (depth + 1) (own_scope depth t ++ rest) p
    ∙ ap (λ A. opened ps b.temporaries (declared_round A c js)) (own-declared depth t rest)
    ∙ sym (ap (λ o. opened ps b.temporaries (unwrap_or (option_map (λ z. declared_round (declared_inside (declared_in rest) t) z js) o) (declared_in rest))) e)

-- a scope that has no declaration of a name
pub fresh-scope : (x : Name) (d : ℕ) (ps ts : List Name) (ss : StatementsOf Name) (rest : List (PlacedScope Name)) → list_any (text_eq x) ps ≡ false → list_any (text_eq x) ts ≡ false → kind_in (declared_in rest) x ≡ None → kind_in (opened ps ts (declared_in rest)) x ≡ None
fresh-scope x d ps ts ss rest p t h =
    kind-scopes ((d, record { arguments = ps; temporaries = ts; statements = ss }) ∷ rest) x
    ∙ (λ j. kind_of (if p j then Argument d else if t j then Temporary d else local_by text_eq rest x))
    ∙ sym (kind-scopes rest x) ∙ h

-- a node without the name declares nothing of it
fresh-own : (x : Name) (depth : ℕ) (t : TreeOf Name) (rest : List (PlacedScope Name)) → is_named_by text_eq x t ≡ false → kind_in (declared_in rest) x ≡ None → kind_in (declared_in (own_scope depth t ++ rest)) x ≡ None
fresh-own x depth (var n) rest e h = h
fresh-own x depth (literal l) rest e h = h
fresh-own x depth (send r s args) rest e h = h
fresh-own x depth (cascade r ms) rest e h = h
fresh-own x depth (assign n t) rest e h = h
fresh-own x depth (block ps ts ss k) rest e h =
    let both = sym (list_any-append (text_eq x) ps ts) ∙ neither_right (option_map_or (text_eq x) (name_used (block ps ts ss k)) false) (list_any (text_eq x) (ps ++ ts)) e in
    fresh-scope x depth ps ts ss rest (neither_left (list_any (text_eq x) ps) _ both) (neither_right (list_any (text_eq x) ps) _ both) h
fresh-own x depth (brace ts) rest e h = h
fresh-own x depth (return t) rest e h = h

pub fresh-inside : (x : Name) {part : TreeOf Name} {ps : List Name} {b : SequenceOf Name} {k : ℕ} {s : TreeOf Name} {ks : List ℕ} {t : TreeOf Name} {js : List ℕ} (depth : ℕ) (rest : List (PlacedScope Name)) → InBlock part ps b k s ks t js → Below (Nameless x) t →
    kind_in (declared_in rest) x ≡ None → kind_in (opened ps b.temporaries (declared_round (declared_in rest) t js)) x ≡ None
fresh-inside x {ps = ps} {b = b} depth rest (this_block e p) n h = fresh-own x depth (block ps b.temporaries b.statements b.tail) rest (n [] (block ps b.temporaries b.statements b.tail) refl) h
fresh-inside x {ps = ps} {b = b} depth rest (block_below {t = t} {c = c} {j = j} {js = js} e p) n h =
    ap (λ o. kind_in (opened ps b.temporaries (unwrap_or (option_map (λ z. declared_round (declared_inside (declared_in rest) t) z js) o) (declared_in rest))) x) e
    ∙ ap (λ A. kind_in (opened ps b.temporaries (declared_round A c js)) x) (sym (own-declared depth t rest))
    ∙ fresh-inside x (depth + 1) (own_scope depth t ++ rest) p (λ path u q. n (j ∷ path) u (ap (option_and_then (λ z. part_at z path)) e ∙ q)) (fresh-own x depth t rest (n [] t refl) h)

-- another node at the end of a path changes nothing that is declared round it
same-inside : (A : List Declared) (t : TreeOf Name) (k : ℕ) (u : TreeOf Name) → declared_inside A (with_child t k u) ≡ declared_inside A t
same-inside A (var n) k u = refl
same-inside A (literal l) k u = refl
same-inside A (send r s args) zero u = refl
same-inside A (send r s args) (suc k) u = refl
same-inside A (cascade r ms) zero u = refl
same-inside A (cascade r ms) (suc k) u = refl
same-inside A (assign n t) zero u = refl
same-inside A (assign n t) (suc k) u = refl
same-inside A (block ps ts ss e) k u = refl
same-inside A (brace ts) k u = refl
same-inside A (return t) zero u = refl
same-inside A (return t) (suc k) u = refl

pub round-replaced : (A : List Declared) (t : TreeOf Name) (path : List ℕ) (u : TreeOf Name) → declared_round A (replaced t path u) path ≡ declared_round A t path
round-replaced A t [] u = refl
round-replaced A t (k ∷ ks) u = by (child t k) refl (λ B c. round-replaced B c ks u)
  where
    by : (o : Option (TreeOf Name)) → child t k ≡ o → ((B : List Declared) (c : TreeOf Name) → declared_round B (replaced c ks u) ks ≡ declared_round B c ks) →
        declared_round A (unwrap_or (option_map (λ c. with_child t k (replaced c ks u)) o) t) (k ∷ ks) ≡ unwrap_or (option_map (λ c. declared_round (declared_inside A t) c ks) o) A
    by None e ih = ap (λ o. unwrap_or (option_map (λ c. declared_round (declared_inside A t) c ks) o) A) e
    by (Some c) e ih =
        ap (λ o. unwrap_or (option_map (λ z. declared_round (declared_inside A (with_child t k (replaced c ks u))) z ks) o) A) (child-with_child t k c (replaced c ks u) e)
        ∙ ap (λ B. declared_round B (replaced c ks u) ks) (same-inside A t k (replaced c ks u)) ∙ ih (declared_inside A t) c

pub among-replaced : (A : List Declared) (ss : StatementsOf Name) (k : ℕ) (ks : List ℕ) (u : TreeOf Name) → declared_among A (statements_replaced ss (k ∷ ks) u) (k ∷ ks) ≡ declared_among A ss (k ∷ ks)
among-replaced A ss k ks u = by (nth (statement_trees ss) k) refl
  where
    by : (o : Option (TreeOf Name)) → nth (statement_trees ss) k ≡ o →
        declared_among A (unwrap_or (option_map (λ c. with_statement ss k (replaced c ks u)) o) ss) (k ∷ ks) ≡ unwrap_or (option_map (λ c. declared_round A c ks) o) A
    by None e = ap (λ o. unwrap_or (option_map (λ c. declared_round A c ks) o) A) e
    by (Some c) e =
        ap (λ ts. unwrap_or (option_map (λ z. declared_round A z ks) (nth ts k)) A) (statement_trees-with_statement ss k (replaced c ks u))
        ∙ ap (λ o. unwrap_or (option_map (λ z. declared_round A z ks) o) A) (nth-with_nth (statement_trees ss) k c (replaced c ks u) e) ∙ round-replaced A c ks u
