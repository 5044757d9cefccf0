-- A node is asked for over texts where it is over numbers: it mentions the name, and the name is meant.
use Rattle.std.proofs.Common.{◌≡◌, ℕ, ◌<◌, Bool, true, false, ◌&&◌, ◌||◌, List, length, Option, Some, None, option_map, refl, sym, ap, subst, ◌∙◌}
use Rattle.std.specs.Prelude.{nat_eq}
use Rattle.std.specs.Option.{option_map_or}
use Rattle.std.proofs.lemmas.Bool.{eqb-true}
use Rattle.rb_base.specs.Names.{name_at, text_eq, HasNoTwice}
use Rattle.tree_model.specs.Tree.{TreeOf, var, literal, send, cascade, assign, block, brace, return, MessagesOf, no_messages, more_messages, map_names, map_messages}
use Rattle.tree_model.specs.AllNames.{AllNames, MessagesNames}
use Rattle.image_model.specs.Image.{ImageOf}
use Rattle.image_model.specs.ImageNames.{OptionNames}
use Rattle.image_model.specs.Words.{text_words}
use Rattle.image_model.specs.Means.{VariableKind, MeaningOf, pseudo, argument, temporary, variable, a_class, transcript, undeclared, map_meaning}
use Rattle.image_model.specs.Nodes.{Place, means_in}
use Rattle.image_model.specs.Uses.{has_message, is_sender, name_used, same_kind, is_variable, is_that_class}
use Rattle.image_model.proofs.Tables.{KeepsWords-number_words}
use Rattle.query_model.specs.Queries.{QueryOf, of_senders, of_implementors, of_class, of_variable, map_query}
use Rattle.image_queries.specs.Asked.{QueryNames, mentions, is_meant}
use Rattle.image_queries.proofs.Split.{node_asked}
use Rattle.image_queries.proofs.Fitting.{Fits}

-- `and` with true
and-true : (b : Bool) → b ≡ (b && true)
and-true true = refl
and-true false = refl

-- a test that fails where the name is another one
narrowed : (same here there : Bool) → (same ≡ true → here ≡ there) → (same ≡ false → here ≡ false) → here ≡ (same && there)
narrowed true here there p q = p refl
narrowed false here there p q = q refl

-- the name that a node uses, changed
name_used-map : {M N : Type 0} (f : M → N) (t : TreeOf M) → name_used (map_names f t) ≡ option_map f (name_used t)
name_used-map f (var n) = refl
name_used-map f (literal l) = refl
name_used-map f (send r s args) = refl
name_used-map f (cascade r ms) = refl
name_used-map f (assign n t) = refl
name_used-map f (block ps ts ss e) = refl
name_used-map f (brace ts) = refl
name_used-map f (return t) = refl

-- the name that a node uses is one of its names
name_used-known : {N : Type 0} (P : N → Type 0) (t : TreeOf N) → AllNames P t → OptionNames P (name_used t)
name_used-known P (var n) p = p
name_used-known P (literal l) p = tt
name_used-known P (send r s args) p = tt
name_used-known P (cascade r ms) p = tt
name_used-known P (assign n t) p = p.0
name_used-known P (block ps ts ss e) p = tt
name_used-known P (brace ts) p = tt
name_used-known P (return t) p = tt

module _ (names : List (List ℕ)) (distinct : HasNoTwice names) where
  -- a name that is known
  abbrev Known : ℕ → Type 0
  Known n = n < length names

  -- texts are equal where their numbers are
  same_text : (j k : ℕ) → Known j → Known k → text_eq (name_at names j) (name_at names k) ≡ nat_eq j k
  same_text j k p q = (KeepsWords-number_words names distinct).tests.same j k p q

  -- a message of a selector
  has_message-map : (s : ℕ) (ms : MessagesOf ℕ) → Known s → MessagesNames Known ms → has_message text_eq (name_at names s) (map_messages (name_at names) ms) ≡ has_message nat_eq s ms
  has_message-map s no_messages p q = refl
  has_message-map s (more_messages t args ms) p q = λ i. same_text s t p q.0 i || has_message-map s ms p q.2 i

  -- a node that sends a selector
  is_sender-map : (s : ℕ) (t : TreeOf ℕ) → Known s → AllNames Known t → is_sender text_eq (name_at names s) (map_names (name_at names) t) ≡ is_sender nat_eq s t
  is_sender-map s (var n) p q = refl
  is_sender-map s (literal l) p q = refl
  is_sender-map s (send r t args) p q = same_text s t p q.1
  is_sender-map s (cascade r ms) p q = has_message-map s ms p q.1
  is_sender-map s (assign n t) p q = refl
  is_sender-map s (block ps ts ss e) p q = refl
  is_sender-map s (brace ts) p q = refl
  is_sender-map s (return t) p q = refl

  -- a meaning that is a class
  is_that_class-map : (c n : ℕ) (m : MeaningOf ℕ) → Known c → Known n → Fits Known n m → is_that_class text_eq (name_at names c) (map_meaning (name_at names) m) ≡ is_that_class nat_eq c m
  is_that_class-map c n pseudo p q r = refl
  is_that_class-map c n (argument scope) p q r = refl
  is_that_class-map c n (temporary scope) p q r = refl
  is_that_class-map c n (variable kind d) p q r = refl
  is_that_class-map c n (a_class d) p q r = same_text c d p (subst Known (sym r) q)
  is_that_class-map c n transcript p q r = refl
  is_that_class-map c n undeclared p q r = refl

  -- a meaning that is a variable
  is_variable-map : (kind : VariableKind) (c n : ℕ) (m : MeaningOf ℕ) → Known c → Fits Known n m → is_variable text_eq kind (name_at names c) (map_meaning (name_at names) m) ≡ is_variable nat_eq kind c m
  is_variable-map kind c n pseudo p r = refl
  is_variable-map kind c n (argument scope) p r = refl
  is_variable-map kind c n (temporary scope) p r = refl
  is_variable-map kind c n (variable j d) p r = ap (λ b. same_kind kind j && b) (same_text c d p r)
  is_variable-map kind c n (a_class d) p r = refl
  is_variable-map kind c n transcript p r = refl
  is_variable-map kind c n undeclared p r = refl

  -- another name stands for no class of this name
  other_class : (c n : ℕ) (m : MeaningOf ℕ) → Fits Known n m → nat_eq c n ≡ false → is_that_class nat_eq c m ≡ false
  other_class c n pseudo r e = refl
  other_class c n (argument scope) r e = refl
  other_class c n (temporary scope) r e = refl
  other_class c n (variable kind d) r e = refl
  other_class c n (a_class d) r e = ap (nat_eq c) r ∙ e
  other_class c n transcript r e = refl
  other_class c n undeclared r e = refl

  module _ (i : ImageOf (List ℕ)) (place : Place) (path : List ℕ) (meaning : ℕ → MeaningOf ℕ) (fits : (n : ℕ) → Fits Known n (meaning n))
      (named : (n : ℕ) → Known n → means_in text_words i place path (name_at names n) ≡ map_meaning (name_at names) (meaning n)) where
    -- a node that uses a class
    class_asked : (c : ℕ) (o : Option ℕ) → Known c → OptionNames Known o
        → option_map_or (λ n. is_that_class text_eq (name_at names c) (means_in text_words i place path n)) (option_map (name_at names) o) false ≡ (option_map_or (nat_eq c) o false && is_that_class nat_eq c (meaning c))
    class_asked c None p q = refl
    class_asked c (Some n) p q =
        ap (is_that_class text_eq (name_at names c)) (named n q)
        ∙ is_that_class-map c n (meaning n) p q (fits n)
        ∙ narrowed (nat_eq c n) (is_that_class nat_eq c (meaning n)) (is_that_class nat_eq c (meaning c)) (λ e. ap (λ (k : ℕ). is_that_class nat_eq c (meaning k)) (sym (eqb-true c n e))) (other_class c n (meaning n) (fits n))

    -- a node that uses a variable
    variable_asked : (kind : VariableKind) (c n : ℕ) (o : Option ℕ) → Known c → Known n → OptionNames Known o
        → option_map_or (λ m. text_eq (name_at names n) m && is_variable text_eq kind (name_at names c) (means_in text_words i place path m)) (option_map (name_at names) o) false
        ≡ (option_map_or (nat_eq n) o false && is_variable nat_eq kind c (meaning n))
    variable_asked kind c n None p q r = refl
    variable_asked kind c n (Some m) p q r =
        (λ j. same_text n m q r j && is_variable text_eq kind (name_at names c) (named m r j))
        ∙ ap (λ b. nat_eq n m && b) (is_variable-map kind c m (meaning m) p (fits m))
        ∙ narrowed (nat_eq n m) (nat_eq n m && is_variable nat_eq kind c (meaning m)) (is_variable nat_eq kind c (meaning n))
        (λ e. ap (λ b. b && is_variable nat_eq kind c (meaning m)) e ∙ ap (λ (k : ℕ). is_variable nat_eq kind c (meaning k)) (sym (eqb-true n m e)))
        (λ e. ap (λ b. b && is_variable nat_eq kind c (meaning m)) e)

    -- a node that is asked for
    pub asked : (q : QueryOf ℕ) (t : TreeOf ℕ) → QueryNames Known q → AllNames Known t
        → node_asked text_words i (map_query (name_at names) q) (record { use_of = record { place = place; path = path }; tree = map_names (name_at names) t }) ≡ (mentions q t && is_meant q meaning)
    asked (of_senders s) t p k = is_sender-map s t p k ∙ and-true (is_sender nat_eq s t)
    asked (of_implementors s) t p k = refl
    asked (of_class c) t p k =
        ap (λ o. option_map_or (λ n. is_that_class text_eq (name_at names c) (means_in text_words i place path n)) o false) (name_used-map (name_at names) t)
        ∙ class_asked c (name_used t) p (name_used-known Known t k)
    asked (of_variable kind c n) t p k =
        ap (λ o. option_map_or (λ m. text_eq (name_at names n) m && is_variable text_eq kind (name_at names c) (means_in text_words i place path m)) o false) (name_used-map (name_at names) t)
        ∙ variable_asked kind c n (name_used t) p.0 p.1 (name_used-known Known t k)
