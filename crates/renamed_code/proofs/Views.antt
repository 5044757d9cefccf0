-- The code after is what the model makes of it, and what is renamed stands in it where the model says so.
use Rattle.std.proofs.Common.{◌≡◌, ℕ, Bool, true, false, cond, ◌&&◌, ◌||◌, List, [], Option, None, Some, refl, sym, ap, ◌∙◌}
use Rattle.std.specs.Prelude.{nat_eq, if◌then◌else◌}
use Rattle.std.specs.Borrow.{Bor}
use Rattle.std.specs.List.{list_any}
use Rattle.std.specs.Option.{option_map_or}
use Rattle.tree_model.specs.Tree.{TreeOf, var, literal, send, cascade, assign, block, brace, return, MessagesOf, no_messages, more_messages, StatementsOf, SequenceOf, MethodOf}
use Rattle.tree_model.specs.Nodes.{Placed, statements_nodes}
use Rattle.st_tree.specs.View.{statements_of, method_of, sequence_of}
use Rattle.st_tree.specs.declared.tree.Method.{Method}
use Rattle.st_tree.specs.declared.tree.Sequence.{Sequence}
use Rattle.image_model.specs.Image.{EntryOf, DoItOf}
use Rattle.image_model.specs.Words.{number_words}
use Rattle.image_model.specs.Means.{VariableKind, MeaningOf}
use Rattle.image_model.specs.Uses.{name_used, has_message, is_sender, is_variable, is_that_class}
use Rattle.rename_model.specs.Conditions.{has_message_that, sends_one_that}
use Rattle.rename_model.specs.Renamed.{renamed_statements}
use Rattle.rename_model.specs.SelectorRenamed.{statements_anew}
use Rattle.command_model.specs.Numbers.{number_writing}
use Rattle.class_table.specs.declared.record.MethodRec.{MethodRec}
use Rattle.class_table.specs.declared.record.DoIt.{DoIt}
use Rattle.class_table.specs.Slots.{Slots}
use Rattle.class_table.specs.View.{entry_of, doit_of, number_image}
use Rattle.name_meanings.specs.Meanings.{kind_of}
use Rattle.renamed_code.specs.declared.renamed.Renamed.{Renamed}
use Rattle.renamed_code.specs.declared.renamed.Renamed.TheVariants as renamed
use Rattle.renamed_code.specs.declared.renaming.Code.{Code}
use Rattle.renamed_code.specs.declared.renaming.Code.TheVariants as code
use Rattle.renamed_code.specs.declared.renaming.Renaming.{Renaming}
use Rattle.renamed_code.specs.Anew.{of_a_variable, entry_after, is_entry_changed, doit_after, is_doit_changed}
use Rattle.renamed_code.specs.ChangedCode.{renamed_of}
use Rattle.renamed_code.specs.Standing.{stands_in_statements}
use Rattle.renamed_code.specs.Renamings.{meaning_in, has_name, is_meant_by, is_the_selector, is_named_at, is_sent_by, statements_after, sequence_after, method_after, is_in_statements, is_in_method}
use Rattle.renamed_code.proofs.Nodes.{passes, or-false, list_any-alike, standing-statements}
use Rattle.renamed_code.proofs.Kept.{renamed_statements-kept, statements_anew-kept}
use Rattle.renamed_code.proofs.Meant.{spelled-means, spelled-means_in_doit}

-- a node in which no name and no selector passes
no_messages_sent : {N : Type 0} (ms : MessagesOf N) → has_message_that (λ s. false) ms ≡ false
no_messages_sent no_messages = refl
no_messages_sent (more_messages s args ms) = no_messages_sent ms

nothing_sent : {N : Type 0} (t : TreeOf N) → sends_one_that (λ s. false) t ≡ false
nothing_sent (var n) = refl
nothing_sent (literal l) = refl
nothing_sent (send r s args) = refl
nothing_sent (cascade r ms) = no_messages_sent ms
nothing_sent (assign n t) = refl
nothing_sent (block ps ts ss e) = refl
nothing_sent (brace ts) = refl
nothing_sent (return t) = refl

-- a node that sends a selector
message_sent : {N : Type 0} (same : N → N → Bool) (s : N) (ms : MessagesOf N) → has_message_that (same s) ms ≡ has_message same s ms
message_sent same s no_messages = refl
message_sent same s (more_messages t args ms) = ap (λ (b : Bool). same s t || b) (message_sent same s ms)

only_sent : {N : Type 0} (same : N → N → Bool) (s : N) (t : TreeOf N) → (option_map_or (λ (n : N). false) (name_used t) false || sends_one_that (same s) t) ≡ is_sender same s t
only_sent same s (var n) = refl
only_sent same s (literal l) = refl
only_sent same s (send r t args) = refl
only_sent same s (cascade r ms) = message_sent same s ms
only_sent same s (assign n t) = refl
only_sent same s (block ps ts ss e) = refl
only_sent same s (brace ts) = refl
only_sent same s (return t) = refl

-- where no selector passes, what stands in statements is told by the names
only_named : (named : List ℕ → ℕ → Bool) (ss : StatementsOf ℕ) → list_any (λ (e : Placed ℕ). option_map_or (λ n. named e.0 n) (name_used e.1) false) (statements_nodes 0 ss)
    ≡ list_any (passes (λ s. false) named) (statements_nodes 0 ss)
only_named named ss =
    list_any-alike (λ (e : Placed ℕ). option_map_or (λ n. named e.0 n) (name_used e.1) false) (passes (λ s. false) named) (statements_nodes 0 ss)
    (λ e. sym (or-false (option_map_or (λ n. named e.0 n) (name_used e.1) false)) ∙ ap (λ (b : Bool). option_map_or (λ n. named e.0 n) (name_used e.1) false || b) (sym (nothing_sent e.1)))

module _ (image : Bor Slots) (c : Code) (to : ℕ) where
  -- the renaming
  abbrev of : Renamed → Renaming
  of what = record { image = image; code = c; what = what; to = to }

  -- what names stand for
  abbrev at : List ℕ → ℕ → MeaningOf ℕ
  at = meaning_in image.now c

  -- of a class, where its name is spelled wherever it is meant
  module _ (k : ℕ) (spelled : (path : List ℕ) (n : ℕ) → (nat_eq k n && is_that_class nat_eq k (at path n)) ≡ is_that_class nat_eq k (at path n)) where
    class-after : (ss : StatementsOf ℕ) → statements_after (of (renamed.Class k)) [] 0 ss ≡ renamed_statements (λ path n. if is_that_class nat_eq k (at path n) then to else n) 0 ss
    unfolding is_named_at is_sent_by
    class-after ss =
        statements_anew-kept (renamed_statements (λ path n. if nat_eq k n && is_that_class nat_eq k (at path n) then to else n) 0 ss)
        ∙ (λ i. renamed_statements (λ path n. if spelled path n i then to else n) 0 ss)

    class-found : (ss : StatementsOf ℕ) → is_in_statements (of (renamed.Class k)) [] 0 ss ≡ list_any (λ (e : Placed ℕ). option_map_or (λ n. is_that_class nat_eq k (at e.0 n)) (name_used e.1) false) (statements_nodes 0 ss)
    unfolding is_named_at is_sent_by
    class-found ss =
        sym (standing-statements (λ s. false) (λ path n. nat_eq k n && is_that_class nat_eq k (at path n)) 0 ss)
        ∙ sym (only_named (λ path n. nat_eq k n && is_that_class nat_eq k (at path n)) ss)
        ∙ (λ i. list_any (λ (e : Placed ℕ). option_map_or (λ n. spelled e.0 n i) (name_used e.1) false) (statements_nodes 0 ss))

  -- of a variable
  module _ (what : Renamed) (kind : VariableKind) (k x : ℕ) (is : renamed_of what ≡ of_a_variable kind k x) where
    variable-after : (ss : StatementsOf ℕ) → statements_after (of what) [] 0 ss ≡ renamed_statements (λ path n. if nat_eq x n && is_variable nat_eq kind k (at path n) then to else n) 0 ss
    unfolding is_named_at is_sent_by
    variable-after ss =
        (λ i. statements_anew (λ t. if is_the_selector (is i) t then to else t) (renamed_statements (λ path n. if has_name (is i) n && is_meant_by (is i) (at path n) then to else n) 0 ss))
        ∙ statements_anew-kept (renamed_statements (λ path n. if nat_eq x n && is_variable nat_eq kind k (at path n) then to else n) 0 ss)

    variable-found : (ss : StatementsOf ℕ) → is_in_statements (of what) [] 0 ss ≡ list_any (λ (e : Placed ℕ). option_map_or (λ n. nat_eq x n && is_variable nat_eq kind k (at e.0 n)) (name_used e.1) false) (statements_nodes 0 ss)
    unfolding is_named_at is_sent_by
    variable-found ss =
        (λ i. stands_in_statements (λ t. is_the_selector (is i) t) (λ path n. has_name (is i) n && is_meant_by (is i) (at path n)) 0 ss)
        ∙ sym (standing-statements (λ s. false) (λ path n. nat_eq x n && is_variable nat_eq kind k (at path n)) 0 ss)
        ∙ sym (only_named (λ path n. nat_eq x n && is_variable nat_eq kind k (at path n)) ss)

  -- of a selector
  module _ (s : ℕ) where
    selector-after : (ss : StatementsOf ℕ) → statements_after (of (renamed.Selector s)) [] 0 ss ≡ statements_anew (λ t. if nat_eq s t then to else t) ss
    unfolding is_named_at is_sent_by
    selector-after ss = ap (statements_anew (λ t. if nat_eq s t then to else t)) (renamed_statements-kept 0 ss)

    selector-found : (ss : StatementsOf ℕ) → is_in_statements (of (renamed.Selector s)) [] 0 ss ≡ list_any (λ (e : Placed ℕ). is_sender nat_eq s e.1) (statements_nodes 0 ss)
    unfolding is_named_at is_sent_by
    selector-found ss =
        sym (standing-statements (nat_eq s) (λ path n. false) 0 ss)
        ∙ list_any-alike (passes (nat_eq s) (λ path n. false)) (λ (e : Placed ℕ). is_sender nat_eq s e.1) (statements_nodes 0 ss) (λ e. only_sent nat_eq s e.1)

module _ (image : Bor Slots) (to : ℕ) where
  -- a renaming in a method, and the method as the image has it
  abbrev pub in_method : ℕ → Bool → Bor Method → Renamed → Renaming
  in_method class meta tree what = of image (code.Method class meta tree) to what

  abbrev entry : MethodRec → EntryOf ℕ
  entry m = entry_of image.now.classes m

  abbrev rec_of : ℕ → Bool → List ℕ → List ℕ → Bor Method → Bool → MethodRec
  rec_of class meta protocol source tree kernel = record { class = class; meta = meta; protocol = protocol; source = source; tree = tree.now; kernel = kernel }

  module _ (class : ℕ) (meta : Bool) (protocol source : List ℕ) (tree : Bor Method) (kernel : Bool) where
    abbrev m : MethodRec
    m = rec_of class meta protocol source tree kernel

    pub method-after : (what : Renamed) → method_after (in_method class meta tree what) [] (method_of tree.now)
        ≡ (entry_after (number_words image.now.names) (number_writing image.now.names) (number_image image.now) to (renamed_of what) (entry m)).tree
    unfolding is_sent_by
    method-after (renamed.Class k) =
        let t : MethodOf ℕ = method_of tree.now in
        λ i. record t { body = record t.body { statements = class-after image (code.Method class meta tree) to k (λ path n. spelled-means k n image.now.names (number_image image.now) (entry m) path) t.body.statements i } }
    method-after (renamed.Variable kind k x) =
        let t : MethodOf ℕ = method_of tree.now in
        λ i. record t { body = record t.body { statements = variable-after image (code.Method class meta tree) to (renamed.Variable kind k x) (kind_of kind) k x refl t.body.statements i } }
    method-after (renamed.Selector s) =
        let t : MethodOf ℕ = method_of tree.now in
        λ i. record t { selector = if nat_eq s t.selector then to else t.selector; body = record t.body { statements = selector-after image (code.Method class meta tree) to s t.body.statements i } }

    pub method-found : (what : Renamed) → is_in_method (in_method class meta tree what) [] (method_of tree.now)
        ≡ is_entry_changed (number_words image.now.names) (number_writing image.now.names) (number_image image.now) to (renamed_of what) (entry m)
    unfolding is_sent_by
    method-found (renamed.Class k) =
        class-found image (code.Method class meta tree) to k (λ path n. spelled-means k n image.now.names (number_image image.now) (entry m) path) (method_of tree.now).body.statements
    method-found (renamed.Variable kind k x) =
        variable-found image (code.Method class meta tree) to (renamed.Variable kind k x) (kind_of kind) k x refl (method_of tree.now).body.statements
    method-found (renamed.Selector s) =
        ap (λ (b : Bool). nat_eq s tree.now.selector || b) (selector-found image (code.Method class meta tree) to s (method_of tree.now).body.statements)

  -- a renaming in a do-it
  abbrev pub in_doit : Bor Sequence → Renamed → Renaming
  in_doit body what = of image (code.DoIt body) to what

  module _ (source : List ℕ) (body : Bor Sequence) where
    abbrev d : DoIt
    d = record { source = source; body = body.now }

    pub doit-after : (what : Renamed) → sequence_after (in_doit body what) [] (sequence_of body.now)
        ≡ (doit_after (number_words image.now.names) (number_writing image.now.names) (number_image image.now) to (renamed_of what) (doit_of d)).body
    doit-after (renamed.Class k) =
        let b : SequenceOf ℕ = sequence_of body.now in
        λ i. record b { statements = class-after image (code.DoIt body) to k (λ path n. spelled-means_in_doit k n image.now.names (number_image image.now) (doit_of d) path) b.statements i }
    doit-after (renamed.Variable kind k x) =
        let b : SequenceOf ℕ = sequence_of body.now in
        λ i. record b { statements = variable-after image (code.DoIt body) to (renamed.Variable kind k x) (kind_of kind) k x refl b.statements i }
    doit-after (renamed.Selector s) =
        let b : SequenceOf ℕ = sequence_of body.now in
        λ i. record b { statements = selector-after image (code.DoIt body) to s b.statements i }

    pub doit-found : (what : Renamed) → is_in_statements (in_doit body what) [] 0 (statements_of body.now.statements)
        ≡ is_doit_changed (number_words image.now.names) (number_writing image.now.names) (number_image image.now) to (renamed_of what) (doit_of d)
    doit-found (renamed.Class k) =
        class-found image (code.DoIt body) to k (λ path n. spelled-means_in_doit k n image.now.names (number_image image.now) (doit_of d) path) (statements_of body.now.statements)
    doit-found (renamed.Variable kind k x) =
        variable-found image (code.DoIt body) to (renamed.Variable kind k x) (kind_of kind) k x refl (statements_of body.now.statements)
    doit-found (renamed.Selector s) = selector-found image (code.DoIt body) to s (statements_of body.now.statements)
