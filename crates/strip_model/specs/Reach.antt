-- What runs of an image can reach: classes, selectors and methods.
use Rattle.std.specs.Prelude.{ℕ, zero, suc, ◌+◌, List, [], ◌∷◌, ◌++◌, length, map, filter, flat_map, Bool, true, false, ◌&&◌, ◌||◌, Option, Some, None}
use Rattle.std.specs.Bool.{beq}
use Rattle.std.specs.List.{list_any, list_all}
use Rattle.std.specs.Option.{option_map_or}
use Rattle.tree_model.specs.Tree.{TreeOf, var, literal, send, cascade, assign, block, brace, return, MessagesOf, no_messages, more_messages, SequenceOf}
use Rattle.tree_model.specs.Nodes.{Placed, nodes}
use Rattle.image_model.specs.Image.{ClassOf, EntryOf, DoItOf, ImageOf}
use Rattle.image_model.specs.Words.{WordsOf}
use Rattle.image_model.specs.Means.{MeaningOf, pseudo, argument, temporary, variable, a_class, transcript, undeclared, means, means_in_doit}
use Rattle.image_model.specs.Uses.{name_used}

-- a class, a side and a selector
abbrev pub Signature : Type 0 → Type 0
Signature N = N × Bool × N

-- classes by name, selectors, and methods by class, side and selector
pub record ReachOf (N : Type 0) : Type 0 where
  pub classes : List N
  pub selectors : List N
  pub methods : List (Signature N)

-- nothing at all
abbrev pub nothing : {N : Type 0} → ReachOf N
nothing = record { classes = []; selectors = []; methods = [] }

module _ {N : Type 0} (same : N → N → Bool) where
  -- whether two signatures are one
  abbrev pub same_signature : Signature N → Signature N → Bool
  same_signature a b = same a.0 b.0 && beq a.1 b.1 && same a.2 b.2

  -- whether a name, if there is one, passes a test
  abbrev pub if_any : (N → Bool) → Option N → Bool
  if_any p o = option_map_or p o false

  module _ (r : ReachOf N) where
    -- whether a class, a selector or a method is among those that are reached; a method without a class is not
    abbrev pub has_class : N → Bool
    has_class c = list_any (same c) r.classes

    abbrev pub has_selector : N → Bool
    has_selector s = list_any (same s) r.selectors

    abbrev pub has_signature : Signature N → Bool
    has_signature k = list_any (same_signature k) r.methods

    abbrev pub has_method : EntryOf N → Bool
    has_method m = if_any (λ c. has_signature (c, m.meta, m.tree.selector)) m.class

    -- whether all of another list of classes, selectors and methods are
    abbrev pub has_all : ReachOf N → Bool
    has_all p = list_all has_class p.classes && (list_all has_selector p.selectors && list_all has_signature p.methods)

-- the name, if there is one
abbrev pub if_named : {N : Type 0} → Option N → List N
if_named None = []
if_named (Some c) = c ∷ []

-- a method by its class, its side and its selector, if it has a class
abbrev pub signatures : {N : Type 0} → EntryOf N → List (Signature N)
signatures m = map (λ c. (c, m.meta, m.tree.selector)) (if_named m.class)

-- the class that is meant
abbrev pub class_meant : {N : Type 0} → MeaningOf N → List N
class_meant pseudo = []
class_meant (argument scope) = []
class_meant (temporary scope) = []
class_meant (variable kind c) = []
class_meant (a_class c) = c ∷ []
class_meant transcript = []
class_meant undeclared = []

-- the selectors of the messages of a cascade
abbrev pub messages_sent : {N : Type 0} → MessagesOf N → List N
messages_sent no_messages = []
messages_sent (more_messages s args ms) = s ∷ messages_sent ms

-- the selectors that a node sends
abbrev pub node_sends : {N : Type 0} → TreeOf N → List N
node_sends (var n) = []
node_sends (literal l) = []
node_sends (send r s args) = s ∷ []
node_sends (cascade r ms) = messages_sent ms
node_sends (assign n t) = []
node_sends (block ps ts ss e) = []
node_sends (brace ts) = []
node_sends (return t) = []

-- code, with what names mean at its places
abbrev pub CodeOf : Type 0 → Type 0
CodeOf N = (List ℕ → N → MeaningOf N) × SequenceOf N

-- the class that a node of code means
abbrev pub node_means : {N : Type 0} → (List ℕ → N → MeaningOf N) → Placed N → List N
node_means at e = flat_map (λ n. class_meant (at e.0 n)) (if_named (name_used e.1))

-- the classes that the nodes of code mean, and the selectors that they send
abbrev pub code_means : {N : Type 0} → CodeOf N → List N
code_means c = flat_map (node_means c.0) (nodes c.1)

abbrev pub code_sends : {N : Type 0} → CodeOf N → List N
code_sends c = flat_map (λ (e : Placed _). node_sends e.1) (nodes c.1)

module _ {N : Type 0} (w : WordsOf N) (i : ImageOf N) where
  -- a do-it and a method as code
  abbrev pub doit_code : DoItOf N → CodeOf N
  doit_code d = (means_in_doit w i d, d.body)

  abbrev pub method_code : EntryOf N → CodeOf N
  method_code m = (means w i m, m.tree.body)

  -- What is demanded where tests say which classes, selectors and methods are reached: the classes of the kernel, the superclass of each class, the class of each method, and each class that a node of a do-it or of a method means; each selector sent there; the methods of the kernel, and each method of a class and a selector.
  abbrev pub demanded_by : (N → Bool) → (N → Bool) → (EntryOf N → Bool) → ReachOf N
  demanded_by is_class is_selector is_reached = record {
    classes =
        map (λ (c : ClassOf N). c.name) (filter (λ (c : ClassOf N). c.kernel) i.classes)
        ++ (flat_map (λ (c : ClassOf N). if_named c.superclass) (filter (λ (c : ClassOf N). is_class c.name) i.classes)
        ++ (flat_map (λ (m : EntryOf N). if_named m.class) (filter is_reached i.methods)
        ++ (flat_map (λ (d : DoItOf N). code_means (doit_code d)) i.doits
        ++ flat_map (λ (m : EntryOf N). code_means (method_code m)) (filter is_reached i.methods))));
    selectors =
        flat_map (λ (d : DoItOf N). code_sends (doit_code d)) i.doits
        ++ flat_map (λ (m : EntryOf N). code_sends (method_code m)) (filter is_reached i.methods);
    methods = flat_map signatures (filter (λ (m : EntryOf N). m.kernel || (option_map_or is_class m.class false && is_selector m.tree.selector)) i.methods);
  }

  -- what is demanded by what is reached
  abbrev pub demanded : ReachOf N → ReachOf N
  demanded r = demanded_by (has_class w.tests.same r) (has_selector w.tests.same r) (has_method w.tests.same r)

  -- closed: all that is demanded is there
  abbrev pub is_closed : ReachOf N → Bool
  is_closed r = has_all w.tests.same r (demanded r)

  -- all that could be demanded, and how many members it has
  abbrev pub everything : ReachOf N
  everything = demanded_by (λ c. true) (λ s. true) (λ m. true)

  abbrev pub size : ReachOf N → ℕ
  size r = length r.classes + (length r.selectors + length r.methods)

  -- what is demanded again and again, from nothing
  abbrev pub reached_after : ℕ → ReachOf N
  reached_after zero = nothing
  reached_after (suc k) = demanded (reached_after k)

  -- the least that is closed: no more steps than members are needed
  abbrev pub reach : ReachOf N
  reach = reached_after (size everything)
