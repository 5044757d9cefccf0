-- What it says of an image that what is reached is closed.
use Rattle.std.proofs.Common.{◌≡◌, ℕ, List, [], ◌++◌, Some, sym, ap, ◌∙◌, subst}
use Rattle.std.specs.Prelude.{Bool, true, false, ◌&&◌, ◌||◌, map, filter, flat_map, slice_get}
use Rattle.std.specs.List.{list_all}
use Rattle.std.specs.Option.{option_map_or}
use Rattle.std.proofs.lemmas.Bool.{false≢true, or_right}
use Rattle.rb_base.specs.Names.{text_eq}
use Rattle.tree_model.specs.Tree.{TreeOf, var, literal, send, cascade, assign, block, brace, return, MessagesOf, no_messages, more_messages}
use Rattle.tree_model.specs.Path.{part_in}
use Rattle.tree_model.specs.Nodes.{Placed, nodes}
use Rattle.tree_model.proofs.NodesLemmas.{Contains-part_in}
use Rattle.image_model.specs.Image.{ClassOf, EntryOf, DoItOf, ImageOf}
use Rattle.image_model.specs.Words.{text_words}
use Rattle.image_model.specs.Means.{MeaningOf, a_class, means, means_in_doit}
use Rattle.image_model.specs.Uses.{name_used, is_sender, has_message}
use Rattle.image_model.proofs.Ends.{contains-place}
use Rattle.run_model.specs.Values.{Name}
use Rattle.run_model.proofs.Finite.{by_cases, and-true_left, and-true_right, and-true_both}
use Rattle.run_model.proofs.RenamingLemmas.{text-same}
use Rattle.strip_model.specs.Reach.{ReachOf, has_class, has_selector, has_signature, has_method, if_named, signatures, class_meant, messages_sent, node_sends, CodeOf, node_means, code_means, code_sends, doit_code, method_code, demanded, is_closed}
use Rattle.strip_laws.proofs.Listed.{all-left, all-right, all-given, all-each, all-mapped}

-- the messages of a cascade
messages-pass : (p : Name → Bool) (s : Name) (ms : MessagesOf Name) → list_all p (messages_sent ms) ≡ true → has_message text_eq s ms ≡ true → p s ≡ true
messages-pass p s no_messages a h = absurd (false≢true h)
messages-pass p s (more_messages t args ms) a h = by_cases (text_eq s t) (λ e. ap p (text-same s t e) ∙ and-true_left (p t) _ a) (λ e. messages-pass p s ms (and-true_right (p t) _ a) (sym (ap (λ b. b || has_message text_eq s ms) e) ∙ h))

-- a node that sends a selector
sender-pass : (p : Name → Bool) (s : Name) (u : TreeOf Name) → list_all p (node_sends u) ≡ true → is_sender text_eq s u ≡ true → p s ≡ true
sender-pass p s (var n) a h = absurd (false≢true h)
sender-pass p s (literal l) a h = absurd (false≢true h)
sender-pass p s (send r t args) a h = ap p (text-same s t h) ∙ and-true_left (p t) _ a
sender-pass p s (cascade r ms) a h = messages-pass p s ms a h
sender-pass p s (assign n t) a h = absurd (false≢true h)
sender-pass p s (block ps ts ss e) a h = absurd (false≢true h)
sender-pass p s (brace ts) a h = absurd (false≢true h)
sender-pass p s (return t) a h = absurd (false≢true h)

-- what the nodes of code send and mean
module _ (p : Name → Bool) (c : CodeOf Name) where
  pub code-sends : list_all p (code_sends c) ≡ true → (path : List ℕ) (u : TreeOf Name) (s : Name) → part_in c.1 path ≡ Some u → is_sender text_eq s u ≡ true → p s ≡ true
  code-sends a path u s at h =
      let there = contains-place (nodes c.1) (path, u) (Contains-part_in c.1 path u at) in
      sender-pass p s u (all-each p (λ (e : Placed Name). node_sends e.1) (nodes c.1) there.0 (path, u) a there.1) h

  pub code-means : list_all p (code_means c) ≡ true → (path : List ℕ) (u : TreeOf Name) (n d : Name) → part_in c.1 path ≡ Some u → name_used u ≡ Some n → c.0 path n ≡ a_class d → p d ≡ true
  code-means a path u n d at e m =
      let there = contains-place (nodes c.1) (path, u) (Contains-part_in c.1 path u at) in
      and-true_left (p d) true
      (subst (λ (g : MeaningOf Name). list_all p (class_meant g ++ []) ≡ true) m
      (subst (λ o. list_all p (flat_map (λ x. class_meant (c.0 path x)) (if_named o)) ≡ true) e (all-each p (node_means c.0) (nodes c.1) there.0 (path, u) a there.1)))

module _ (i : ImageOf Name) (r : ReachOf Name) (closed : is_closed text_words i r ≡ true) where
  abbrev pub InClass : Name → Type 0
  InClass c = has_class text_eq r c ≡ true

  abbrev pub InSelector : Name → Type 0
  InSelector s = has_selector text_eq r s ≡ true

  abbrev pub InMethod : EntryOf Name → Type 0
  InMethod m = has_method text_eq r m ≡ true

  -- the parts of what is demanded
  abbrev kernels : List Name
  kernels = map (λ (c : ClassOf Name). c.name) (filter (λ (c : ClassOf Name). c.kernel) i.classes)

  abbrev supers : List Name
  supers = flat_map (λ (c : ClassOf Name). if_named c.superclass) (filter (λ (c : ClassOf Name). has_class text_eq r c.name) i.classes)

  abbrev owners : List Name
  owners = flat_map (λ (m : EntryOf Name). if_named m.class) (filter (has_method text_eq r) i.methods)

  abbrev doit_classes : List Name
  doit_classes = flat_map (λ (d : DoItOf Name). code_means (doit_code text_words i d)) i.doits

  abbrev method_classes : List Name
  method_classes = flat_map (λ (m : EntryOf Name). code_means (method_code text_words i m)) (filter (has_method text_eq r) i.methods)

  abbrev doit_selectors : List Name
  doit_selectors = flat_map (λ (d : DoItOf Name). code_sends (doit_code text_words i d)) i.doits

  abbrev method_selectors : List Name
  method_selectors = flat_map (λ (m : EntryOf Name). code_sends (method_code text_words i m)) (filter (has_method text_eq r) i.methods)

  classes-in : list_all (has_class text_eq r) (kernels ++ (supers ++ (owners ++ (doit_classes ++ method_classes)))) ≡ true
  classes-in = and-true_left _ _ closed

  selectors-in : list_all (has_selector text_eq r) (doit_selectors ++ method_selectors) ≡ true
  selectors-in = and-true_left _ _ (and-true_right (list_all (has_class text_eq r) (demanded text_words i r).classes) _ closed)

  methods-in : list_all (has_signature text_eq r) (demanded text_words i r).methods ≡ true
  methods-in = and-true_right (list_all (has_selector text_eq r) (demanded text_words i r).selectors) _ (and-true_right (list_all (has_class text_eq r) (demanded text_words i r).classes) _ closed)

  behind-kernels : list_all (has_class text_eq r) (supers ++ (owners ++ (doit_classes ++ method_classes))) ≡ true
  behind-kernels = all-right (has_class text_eq r) kernels _ classes-in

  behind-supers : list_all (has_class text_eq r) (owners ++ (doit_classes ++ method_classes)) ≡ true
  behind-supers = all-right (has_class text_eq r) supers _ behind-kernels

  behind-owners : list_all (has_class text_eq r) (doit_classes ++ method_classes) ≡ true
  behind-owners = all-right (has_class text_eq r) owners _ behind-supers

  -- the classes of the kernel
  pub kernel-class : (k : ℕ) (e : ClassOf Name) → slice_get i.classes k ≡ Some e → e.kernel ≡ true → InClass e.name
  kernel-class k e at h = all-mapped (has_class text_eq r) (λ (c : ClassOf Name). c.name) (λ (c : ClassOf Name). c.kernel) i.classes k e (all-left (has_class text_eq r) kernels _ classes-in) at h

  -- the superclass of a class
  pub superclass-in : (k : ℕ) (e : ClassOf Name) (p : Name) → slice_get i.classes k ≡ Some e → InClass e.name → e.superclass ≡ Some p → InClass p
  superclass-in k e p at h q =
      and-true_left _ true (subst (λ o. list_all (has_class text_eq r) (if_named o) ≡ true) q
      (all-given (has_class text_eq r) (λ (c : ClassOf Name). if_named c.superclass) (λ (c : ClassOf Name). has_class text_eq r c.name) i.classes k e (all-left (has_class text_eq r) supers _ behind-kernels) at h))

  -- the class of a method
  pub owner-in : (k : ℕ) (m : EntryOf Name) (c : Name) → slice_get i.methods k ≡ Some m → InMethod m → m.class ≡ Some c → InClass c
  owner-in k m c at h q =
      and-true_left _ true (subst (λ o. list_all (has_class text_eq r) (if_named o) ≡ true) q
      (all-given (has_class text_eq r) (λ (x : EntryOf Name). if_named x.class) (has_method text_eq r) i.methods k m (all-left (has_class text_eq r) owners _ behind-supers) at h))

  -- what do-its and methods mean
  pub doit-means : (k : ℕ) (d : DoItOf Name) → slice_get i.doits k ≡ Some d → (path : List ℕ) (u : TreeOf Name) (n c : Name) → part_in d.body path ≡ Some u → name_used u ≡ Some n → means_in_doit text_words i d path n ≡ a_class c → InClass c
  doit-means k d at =
      code-means (has_class text_eq r) (doit_code text_words i d)
      (all-each (has_class text_eq r) (λ (x : DoItOf Name). code_means (doit_code text_words i x)) i.doits k d (all-left (has_class text_eq r) doit_classes _ behind-owners) at)

  pub method-means : (k : ℕ) (m : EntryOf Name) → slice_get i.methods k ≡ Some m → InMethod m → (path : List ℕ) (u : TreeOf Name) (n c : Name) → part_in m.tree.body path ≡ Some u → name_used u ≡ Some n → means text_words i m path n ≡ a_class c → InClass c
  method-means k m at h =
      code-means (has_class text_eq r) (method_code text_words i m)
      (all-given (has_class text_eq r) (λ (x : EntryOf Name). code_means (method_code text_words i x)) (has_method text_eq r) i.methods k m (all-right (has_class text_eq r) doit_classes _ behind-owners) at h)

  -- what they send
  pub doit-sends : (k : ℕ) (d : DoItOf Name) → slice_get i.doits k ≡ Some d → (path : List ℕ) (u : TreeOf Name) (s : Name) → part_in d.body path ≡ Some u → is_sender text_eq s u ≡ true → InSelector s
  doit-sends k d at =
      code-sends (has_selector text_eq r) (doit_code text_words i d)
      (all-each (has_selector text_eq r) (λ (x : DoItOf Name). code_sends (doit_code text_words i x)) i.doits k d (all-left (has_selector text_eq r) doit_selectors _ selectors-in) at)

  pub method-sends : (k : ℕ) (m : EntryOf Name) → slice_get i.methods k ≡ Some m → InMethod m → (path : List ℕ) (u : TreeOf Name) (s : Name) → part_in m.tree.body path ≡ Some u → is_sender text_eq s u ≡ true → InSelector s
  method-sends k m at h =
      code-sends (has_selector text_eq r) (method_code text_words i m)
      (all-given (has_selector text_eq r) (λ (x : EntryOf Name). code_sends (method_code text_words i x)) (has_method text_eq r) i.methods k m (all-right (has_selector text_eq r) doit_selectors _ selectors-in) at h)

  -- a method with a class that is demanded
  demanded-in : (k : ℕ) (m : EntryOf Name) (c : Name) → slice_get i.methods k ≡ Some m → m.class ≡ Some c → (m.kernel || (option_map_or (has_class text_eq r) m.class false && has_selector text_eq r m.tree.selector)) ≡ true → InMethod m
  demanded-in k m c at q h =
      ap (λ o. option_map_or (λ x. has_signature text_eq r (x, m.meta, m.tree.selector)) o false) q
      ∙ and-true_left _ true (subst (λ o. list_all (has_signature text_eq r) (map (λ x. (x, m.meta, m.tree.selector)) (if_named o)) ≡ true) q
      (all-given (has_signature text_eq r) signatures (λ (x : EntryOf Name). x.kernel || (option_map_or (has_class text_eq r) x.class false && has_selector text_eq r x.tree.selector)) i.methods k m methods-in at h))

  -- the methods of the kernel that have classes
  pub kernel-method : (k : ℕ) (m : EntryOf Name) (c : Name) → slice_get i.methods k ≡ Some m → m.class ≡ Some c → m.kernel ≡ true → InMethod m
  kernel-method k m c at q h = demanded-in k m c at q (ap (λ b. b || (option_map_or (has_class text_eq r) m.class false && has_selector text_eq r m.tree.selector)) h)

  -- the methods of classes and selectors that are reached
  pub found-in : (k : ℕ) (m : EntryOf Name) (c : Name) → slice_get i.methods k ≡ Some m → m.class ≡ Some c → InClass c → InSelector m.tree.selector → InMethod m
  found-in k m c at q h s =
      demanded-in k m c at q (or_right m.kernel _ (and-true_both _ (has_selector text_eq r m.tree.selector) (ap (λ o. option_map_or (has_class text_eq r) o false) q ∙ h) s))
