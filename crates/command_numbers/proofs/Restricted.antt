-- Images and commands all of whose names have a fact, as images and commands over those names alone.
use Rattle.std.proofs.Common.{◌≡◌, List, [], ◌∷◌, map, Option, Some, None, option_map, refl, sym, ap, subst, ◌∙◌}
use Rattle.std.specs.List.{AllByRecursion}
use Rattle.tree_model.specs.Tree.{LiteralOf, number, str, symbol, char, array, bytes, word, LiteralsOf, no_literals, more_literals, TreeOf, var, literal, send, cascade, assign, block, brace, return, TreesOf, no_trees, more_trees, MessagesOf, no_messages, more_messages, StatementsOf, no_statements, more_statements, SequenceOf, MethodOf, map_literal, map_literals, map_names, map_trees, map_messages, map_statements, map_sequence, map_method}
use Rattle.tree_model.specs.AllNames.{LiteralNames, LiteralsNames, AllNames, TreesNames, MessagesNames, StatementsNames, SequenceNames, MethodNames}
use Rattle.tree_model.proofs.AllNamesLemmas.{AllNames-map_names, MethodNames-map_method}
use Rattle.image_model.specs.Image.{ClassOf, EntryOf, DoItOf, ImageOf, map_class, map_entry, map_doit, map_image}
use Rattle.image_model.specs.ImageNames.{OptionNames, ClassNames, EntryNames, DoItNames, ImageNames}
use Rattle.command_model.specs.Commands.{CommandOf, RenameClass, AddClass, RemoveClass, AddInstVar, RenameInstVar, RemoveInstVar, PushUpInstVar, PushDownInstVar, AddClassVar, RenameClassVar, RemoveClassVar, PushUpClassVar, PushDownClassVar, AddClassSideVar, RenameClassSideVar, RemoveClassSideVar, RenameSelector, AddMethod, RemoveMethod, PushUpMethod, PushDownMethod, AddParameter, RemoveParameter, AbstractInstVar, ExtractMethod, InlineMethod, ExtractTemp, InlineTemp, RenameTemp}
use Rattle.command_model.specs.Conditions.{SpotOf, AtPart, AtName, ConditionOf, NoReflection, IsUserClass, GoodName, NameUnused, SelectorFresh, NotKernelSelector, Arity, Implements, NotImplements, Removable, NoSubclasses, NotReferenced, HasVariable, VariableFree, VariableUnused, ParentIsUser, NoSuper, MeansSame, Unreached, IsClass, ChildOf, LacksVariable, KnownSelector, ParameterUnused, PlainArguments, AtomLiteral, PartIs, NoReturn, AssignsNoOuter, TempsSteady, ValueUnused, SelfSend, OneTarget, Inlinable, PlainActuals, NoCapture, NoNewControl, Declared, NotIn, LetForm, FirstEvaluated, Shallow, UndoLeft, RedoLeft}
use Rattle.command_numbers.specs.MappedCommands.{map_command, map_spot, map_condition}
use Rattle.command_numbers.specs.CommandNames.{CommandNames, SpotNames, ConditionNames}
use Rattle.command_numbers.proofs.Everywhere.{every_literal, every_method}
use Rattle.command_numbers.proofs.CommandsMapped.{map_command-map_command}

-- the names that have a fact
abbrev pub Restricted : {M : Type 0} → (M → Type 0) → Type 0
Restricted {M} P = (n : M) × P n

-- such a name as any other
abbrev pub plain : {M : Type 0} (P : M → Type 0) → Restricted P → M
plain P x = x.0

-- items that are each what something is mapped to
lifted_list : {X Y : Type 0} (g : Y → X) (Q : X → Type 0) → ((x : X) → Q x → (y : Y) × (g y ≡ x)) → (xs : List X) → AllByRecursion Q xs → (ys : List Y) × (map g ys ≡ xs)
lifted_list g Q h [] a = ([], refl)
lifted_list g Q h (x ∷ xs) a = let y = h x a.0 in let ys = lifted_list g Q h xs a.1 in (y.0 ∷ ys.0, λ i. y.1 i ∷ ys.1 i)

module _ {M : Type 0} (P : M → Type 0) where
  lifted_names : (ns : List M) → AllByRecursion P ns → (ks : List (Restricted P)) × (map (plain P) ks ≡ ns)
  lifted_names ns a = lifted_list (plain P) P (λ n p. ((n, p), refl)) ns a

  lifted_option : (o : Option M) → OptionNames P o → (r : Option (Restricted P)) × (option_map (plain P) r ≡ o)
  lifted_option None a = (None, refl)
  lifted_option (Some n) a = (Some (n, a), refl)

  mutual
    lifted_literal : (l : LiteralOf M) → LiteralNames P l → (k : LiteralOf (Restricted P)) × (map_literal (plain P) k ≡ l)
    lifted_literal (number t) a = (number t, refl)
    lifted_literal (str t) a = (str t, refl)
    lifted_literal (symbol t) a = (symbol t, refl)
    lifted_literal (char b) a = (char b, refl)
    lifted_literal (array ls) a = let ks = lifted_literals ls a in (array ks.0, ap array ks.1)
    lifted_literal (bytes ls) a = let ks = lifted_literals ls a in (bytes ks.0, ap bytes ks.1)
    lifted_literal (word n) a = (word (n, a), refl)

    lifted_literals : (ls : LiteralsOf M) → LiteralsNames P ls → (ks : LiteralsOf (Restricted P)) × (map_literals (plain P) ks ≡ ls)
    lifted_literals no_literals a = (no_literals, refl)
    lifted_literals (more_literals l ls) a =
        let k = lifted_literal l a.0 in let ks = lifted_literals ls a.1 in (more_literals k.0 ks.0, λ i. more_literals (k.1 i) (ks.1 i))

  mutual
    lifted_tree : (t : TreeOf M) → AllNames P t → (u : TreeOf (Restricted P)) × (map_names (plain P) u ≡ t)
    lifted_tree (var n) a = (var (n, a), refl)
    lifted_tree (literal l) a = let k = lifted_literal l a in (literal k.0, ap literal k.1)
    lifted_tree (send r s args) a = let u = lifted_tree r a.0 in let us = lifted_trees args a.2 in (send u.0 (s, a.1) us.0, λ i. send (u.1 i) s (us.1 i))
    lifted_tree (cascade r ms) a = let u = lifted_tree r a.0 in let ks = lifted_messages ms a.1 in (cascade u.0 ks.0, λ i. cascade (u.1 i) (ks.1 i))
    lifted_tree (assign n t) a = let u = lifted_tree t a.1 in (assign (n, a.0) u.0, ap (assign n) u.1)
    lifted_tree (block ps ts ss e) a =
        let qs = lifted_names ps a.0 in let us = lifted_names ts a.1 in let rs = lifted_statements ss a.2 in (block qs.0 us.0 rs.0 e, λ i. block (qs.1 i) (us.1 i) (rs.1 i) e)
    lifted_tree (brace ts) a = let us = lifted_trees ts a in (brace us.0, ap brace us.1)
    lifted_tree (return t) a = let u = lifted_tree t a in (return u.0, ap return u.1)

    lifted_trees : (ts : TreesOf M) → TreesNames P ts → (us : TreesOf (Restricted P)) × (map_trees (plain P) us ≡ ts)
    lifted_trees no_trees a = (no_trees, refl)
    lifted_trees (more_trees t ts) a = let u = lifted_tree t a.0 in let us = lifted_trees ts a.1 in (more_trees u.0 us.0, λ i. more_trees (u.1 i) (us.1 i))

    lifted_messages : (ms : MessagesOf M) → MessagesNames P ms → (ks : MessagesOf (Restricted P)) × (map_messages (plain P) ks ≡ ms)
    lifted_messages no_messages a = (no_messages, refl)
    lifted_messages (more_messages s args ms) a =
        let us = lifted_trees args a.1 in let ks = lifted_messages ms a.2 in (more_messages (s, a.0) us.0 ks.0, λ i. more_messages s (us.1 i) (ks.1 i))

    lifted_statements : (ss : StatementsOf M) → StatementsNames P ss → (rs : StatementsOf (Restricted P)) × (map_statements (plain P) rs ≡ ss)
    lifted_statements no_statements a = (no_statements, refl)
    lifted_statements (more_statements c t ss) a =
        let u = lifted_tree t a.0 in let rs = lifted_statements ss a.1 in (more_statements c u.0 rs.0, λ i. more_statements c (u.1 i) (rs.1 i))

  lifted_sequence : (b : SequenceOf M) → SequenceNames P b → (d : SequenceOf (Restricted P)) × (map_sequence (plain P) d ≡ b)
  lifted_sequence b a =
      let ts = lifted_names b.temporaries a.temporaries in
      let rs = lifted_statements b.statements a.statements in
      (record { temporaries = ts.0; statements = rs.0; tail = b.tail }, λ i. record b { temporaries = ts.1 i; statements = rs.1 i })

  lifted_method : (m : MethodOf M) → MethodNames P m → (n : MethodOf (Restricted P)) × (map_method (plain P) n ≡ m)
  lifted_method m a =
      let ps = lifted_names m.arguments a.arguments in
      let b = lifted_sequence m.body a.body in
      (record { selector = (m.selector, a.selector); arguments = ps.0; head = m.head; primitive = m.primitive; body = b.0 }, λ i. record m { arguments = ps.1 i; body = b.1 i })

  lifted_class : (c : ClassOf M) → ClassNames P c → (d : ClassOf (Restricted P)) × (map_class (plain P) d ≡ c)
  lifted_class c a =
      let above = lifted_option c.superclass a.superclass in
      let instance = lifted_names c.instance a.instance in
      let shared = lifted_names c.shared a.shared in
      let class_side = lifted_names c.class_side a.class_side in (
        record { name = (c.name, a.name); superclass = above.0; instance = instance.0; shared = shared.0; class_side = class_side.0; category = c.category; comment = c.comment; kernel = c.kernel },
        λ i. record c { superclass = above.1 i; instance = instance.1 i; shared = shared.1 i; class_side = class_side.1 i },
      )

  lifted_entry : (m : EntryOf M) → EntryNames P m → (n : EntryOf (Restricted P)) × (map_entry (plain P) n ≡ m)
  lifted_entry m a =
      let c = lifted_option m.class a.class in
      let t = lifted_method m.tree a.tree in
      (record { class = c.0; meta = m.meta; protocol = m.protocol; source = m.source; tree = t.0; kernel = m.kernel }, λ i. record m { class = c.1 i; tree = t.1 i })

  lifted_doit : (d : DoItOf M) → DoItNames P d → (e : DoItOf (Restricted P)) × (map_doit (plain P) e ≡ d)
  lifted_doit d a = let b = lifted_sequence d.body a in (record { source = d.source; body = b.0 }, λ i. record d { body = b.1 i })

  -- an image
  lifted_image : (i : ImageOf M) → ImageNames P i → (k : ImageOf (Restricted P)) × (map_image (plain P) k ≡ i)
  lifted_image i a =
      let classes = lifted_list (map_class (plain P)) (ClassNames P) lifted_class i.classes a.classes in
      let methods = lifted_list (map_entry (plain P)) (EntryNames P) lifted_entry i.methods a.methods in
      let doits = lifted_list (map_doit (plain P)) (DoItNames P) lifted_doit i.doits a.doits in
      (record { classes = classes.0; methods = methods.0; doits = doits.0; heads = i.heads }, λ j. record i { classes = classes.1 j; methods = methods.1 j; doits = doits.1 j })

  -- a command
  lifted_command : (command : CommandOf M) → CommandNames P command → (k : CommandOf (Restricted P)) × (map_command (plain P) k ≡ command)
  lifted_command (RenameClass c d) a = (RenameClass (c, a.0) (d, a.1), refl)
  lifted_command (AddClass d p under) a = let ns = lifted_names under a.2 in (AddClass (d, a.0) (p, a.1) ns.0, ap (AddClass d p) ns.1)
  lifted_command (RemoveClass c) a = (RemoveClass (c, a), refl)
  lifted_command (AddInstVar c x) a = (AddInstVar (c, a.0) (x, a.1), refl)
  lifted_command (RenameInstVar c x y) a = (RenameInstVar (c, a.0) (x, a.1) (y, a.2), refl)
  lifted_command (RemoveInstVar c x) a = (RemoveInstVar (c, a.0) (x, a.1), refl)
  lifted_command (PushUpInstVar c x) a = (PushUpInstVar (c, a.0) (x, a.1), refl)
  lifted_command (PushDownInstVar c x) a = (PushDownInstVar (c, a.0) (x, a.1), refl)
  lifted_command (AddClassVar c x) a = (AddClassVar (c, a.0) (x, a.1), refl)
  lifted_command (RenameClassVar c x y) a = (RenameClassVar (c, a.0) (x, a.1) (y, a.2), refl)
  lifted_command (RemoveClassVar c x) a = (RemoveClassVar (c, a.0) (x, a.1), refl)
  lifted_command (PushUpClassVar c x) a = (PushUpClassVar (c, a.0) (x, a.1), refl)
  lifted_command (PushDownClassVar c x d) a = (PushDownClassVar (c, a.0) (x, a.1) (d, a.2), refl)
  lifted_command (AddClassSideVar c x) a = (AddClassSideVar (c, a.0) (x, a.1), refl)
  lifted_command (RenameClassSideVar c x y) a = (RenameClassSideVar (c, a.0) (x, a.1) (y, a.2), refl)
  lifted_command (RemoveClassSideVar c x) a = (RemoveClassSideVar (c, a.0) (x, a.1), refl)
  lifted_command (RenameSelector s t) a = (RenameSelector (s, a.0) (t, a.1), refl)
  lifted_command (AddMethod c meta protocol text tree) a = let t = lifted_method tree a.1 in (AddMethod (c, a.0) meta protocol text t.0, ap (AddMethod c meta protocol text) t.1)
  lifted_command (RemoveMethod c meta s) a = (RemoveMethod (c, a.0) meta (s, a.1), refl)
  lifted_command (PushUpMethod c meta s) a = (PushUpMethod (c, a.0) meta (s, a.1), refl)
  lifted_command (PushDownMethod c meta s) a = (PushDownMethod (c, a.0) meta (s, a.1), refl)
  lifted_command (AddParameter s t x passed) a = let l = lifted_literal passed a.3 in (AddParameter (s, a.0) (t, a.1) (x, a.2) l.0, ap (AddParameter s t x) l.1)
  lifted_command (RemoveParameter s k t) a = (RemoveParameter (s, a.0) k (t, a.1), refl)
  lifted_command (AbstractInstVar c x setter given) a = (AbstractInstVar (c, a.0) (x, a.1) (setter, a.2) (given, a.3), refl)
  lifted_command (ExtractMethod c meta s from to t) a = (ExtractMethod (c, a.0) meta (s, a.1) from to (t, a.2), refl)
  lifted_command (InlineMethod c meta s from to) a = (InlineMethod (c, a.0) meta (s, a.1) from to, refl)
  lifted_command (ExtractTemp c meta s from to x) a = (ExtractTemp (c, a.0) meta (s, a.1) from to (x, a.2), refl)
  lifted_command (InlineTemp c meta s x) a = (InlineTemp (c, a.0) meta (s, a.1) (x, a.2), refl)
  lifted_command (RenameTemp c meta s x y) a = (RenameTemp (c, a.0) meta (s, a.1) (x, a.2) (y, a.3), refl)

  -- where something is moved
  lifted_spot : (spot : SpotOf M) → SpotNames P spot → (k : SpotOf (Restricted P)) × (map_spot (plain P) k ≡ spot)
  lifted_spot (AtPart from to) a = (AtPart from to, refl)
  lifted_spot (AtName x) a = (AtName (x, a), refl)

  -- a condition
  lifted_condition : (condition : ConditionOf M) → ConditionNames P condition → (k : ConditionOf (Restricted P)) × (map_condition (plain P) k ≡ condition)
  lifted_condition NoReflection a = (NoReflection, refl)
  lifted_condition (IsUserClass c) a = (IsUserClass (c, a), refl)
  lifted_condition (GoodName n kind) a = (GoodName (n, a) kind, refl)
  lifted_condition (NameUnused n) a = (NameUnused (n, a), refl)
  lifted_condition (SelectorFresh s) a = (SelectorFresh (s, a), refl)
  lifted_condition (NotKernelSelector s) a = (NotKernelSelector (s, a), refl)
  lifted_condition (Arity t count) a = (Arity (t, a) count, refl)
  lifted_condition (Implements c meta s) a = (Implements (c, a.0) meta (s, a.1), refl)
  lifted_condition (NotImplements c meta s) a = (NotImplements (c, a.0) meta (s, a.1), refl)
  lifted_condition (Removable c meta s) a = (Removable (c, a.0) meta (s, a.1), refl)
  lifted_condition (NoSubclasses c) a = (NoSubclasses (c, a), refl)
  lifted_condition (NotReferenced c) a = (NotReferenced (c, a), refl)
  lifted_condition (HasVariable c x) a = (HasVariable (c, a.0) (x, a.1), refl)
  lifted_condition (VariableFree c x) a = (VariableFree (c, a.0) (x, a.1), refl)
  lifted_condition (VariableUnused c x) a = (VariableUnused (c, a.0) (x, a.1), refl)
  lifted_condition (ParentIsUser c) a = (ParentIsUser (c, a), refl)
  lifted_condition (NoSuper c meta s) a = (NoSuper (c, a.0) meta (s, a.1), refl)
  lifted_condition (MeansSame c meta s d) a = (MeansSame (c, a.0) meta (s, a.1) (d, a.2), refl)
  lifted_condition (Unreached s) a = (Unreached (s, a), refl)
  lifted_condition (IsClass c) a = (IsClass (c, a), refl)
  lifted_condition (ChildOf d c) a = (ChildOf (d, a.0) (c, a.1), refl)
  lifted_condition (LacksVariable c x) a = (LacksVariable (c, a.0) (x, a.1), refl)
  lifted_condition (KnownSelector s) a = (KnownSelector (s, a), refl)
  lifted_condition (ParameterUnused s k) a = (ParameterUnused (s, a) k, refl)
  lifted_condition (PlainArguments s k) a = (PlainArguments (s, a) k, refl)
  lifted_condition AtomLiteral a = (AtomLiteral, refl)
  lifted_condition (PartIs c meta s from to) a = (PartIs (c, a.0) meta (s, a.1) from to, refl)
  lifted_condition (NoReturn c meta s from to) a = (NoReturn (c, a.0) meta (s, a.1) from to, refl)
  lifted_condition (AssignsNoOuter c meta s from to) a = (AssignsNoOuter (c, a.0) meta (s, a.1) from to, refl)
  lifted_condition (TempsSteady c meta s from to) a = (TempsSteady (c, a.0) meta (s, a.1) from to, refl)
  lifted_condition (ValueUnused c meta s from to) a = (ValueUnused (c, a.0) meta (s, a.1) from to, refl)
  lifted_condition (SelfSend c meta s from to) a = (SelfSend (c, a.0) meta (s, a.1) from to, refl)
  lifted_condition (OneTarget c meta s) a = (OneTarget (c, a.0) meta (s, a.1), refl)
  lifted_condition (Inlinable c meta s) a = (Inlinable (c, a.0) meta (s, a.1), refl)
  lifted_condition (PlainActuals c meta s from to) a = (PlainActuals (c, a.0) meta (s, a.1) from to, refl)
  lifted_condition (NoCapture c meta s spot) a = let k = lifted_spot spot a.2 in (NoCapture (c, a.0) meta (s, a.1) k.0, ap (NoCapture c meta s) k.1)
  lifted_condition (NoNewControl c meta s spot) a = let k = lifted_spot spot a.2 in (NoNewControl (c, a.0) meta (s, a.1) k.0, ap (NoNewControl c meta s) k.1)
  lifted_condition (Declared c meta s x) a = (Declared (c, a.0) meta (s, a.1) (x, a.2), refl)
  lifted_condition (NotIn c meta s x) a = (NotIn (c, a.0) meta (s, a.1) (x, a.2), refl)
  lifted_condition (LetForm c meta s x) a = (LetForm (c, a.0) meta (s, a.1) (x, a.2), refl)
  lifted_condition (FirstEvaluated c meta s from to) a = (FirstEvaluated (c, a.0) meta (s, a.1) from to, refl)
  lifted_condition Shallow a = (Shallow, refl)
  lifted_condition UndoLeft a = (UndoLeft, refl)
  lifted_condition RedoLeft a = (RedoLeft, refl)

  -- each name of a condition over these names has the fact
  pub condition_names : (k : ConditionOf (Restricted P)) → ConditionNames P (map_condition (plain P) k)
  condition_names NoReflection = tt
  condition_names (IsUserClass c) = c.1
  condition_names (GoodName n kind) = n.1
  condition_names (NameUnused n) = n.1
  condition_names (SelectorFresh s) = s.1
  condition_names (NotKernelSelector s) = s.1
  condition_names (Arity t count) = t.1
  condition_names (Implements c meta s) = (c.1, s.1)
  condition_names (NotImplements c meta s) = (c.1, s.1)
  condition_names (Removable c meta s) = (c.1, s.1)
  condition_names (NoSubclasses c) = c.1
  condition_names (NotReferenced c) = c.1
  condition_names (HasVariable c x) = (c.1, x.1)
  condition_names (VariableFree c x) = (c.1, x.1)
  condition_names (VariableUnused c x) = (c.1, x.1)
  condition_names (ParentIsUser c) = c.1
  condition_names (NoSuper c meta s) = (c.1, s.1)
  condition_names (MeansSame c meta s d) = (c.1, s.1, d.1)
  condition_names (Unreached s) = s.1
  condition_names (IsClass c) = c.1
  condition_names (ChildOf d c) = (d.1, c.1)
  condition_names (LacksVariable c x) = (c.1, x.1)
  condition_names (KnownSelector s) = s.1
  condition_names (ParameterUnused s k) = s.1
  condition_names (PlainArguments s k) = s.1
  condition_names AtomLiteral = tt
  condition_names (PartIs c meta s from to) = (c.1, s.1)
  condition_names (NoReturn c meta s from to) = (c.1, s.1)
  condition_names (AssignsNoOuter c meta s from to) = (c.1, s.1)
  condition_names (TempsSteady c meta s from to) = (c.1, s.1)
  condition_names (ValueUnused c meta s from to) = (c.1, s.1)
  condition_names (SelfSend c meta s from to) = (c.1, s.1)
  condition_names (OneTarget c meta s) = (c.1, s.1)
  condition_names (Inlinable c meta s) = (c.1, s.1)
  condition_names (PlainActuals c meta s from to) = (c.1, s.1)
  condition_names (NoCapture c meta s (AtPart from to)) = (c.1, s.1, tt)
  condition_names (NoCapture c meta s (AtName x)) = (c.1, s.1, x.1)
  condition_names (NoNewControl c meta s (AtPart from to)) = (c.1, s.1, tt)
  condition_names (NoNewControl c meta s (AtName x)) = (c.1, s.1, x.1)
  condition_names (Declared c meta s x) = (c.1, s.1, x.1)
  condition_names (NotIn c meta s x) = (c.1, s.1, x.1)
  condition_names (LetForm c meta s x) = (c.1, s.1, x.1)
  condition_names (FirstEvaluated c meta s from to) = (c.1, s.1)
  condition_names Shallow = tt
  condition_names UndoLeft = tt
  condition_names RedoLeft = tt

  -- each name of a command over these names has what these names have
  pub command_names : (Q : M → Type 0) → ((x : Restricted P) → Q x.0) → (k : CommandOf (Restricted P)) → CommandNames Q (map_command (plain P) k)
  command_names Q h (RenameClass c d) = (h c, h d)
  command_names Q h (AddClass d p under) = (h d, h p, every_mapped Q h under)
    where
      every_mapped : (Q : M → Type 0) → ((x : Restricted P) → Q x.0) → (xs : List (Restricted P)) → AllByRecursion Q (map (plain P) xs)
      every_mapped Q h [] = tt
      every_mapped Q h (x ∷ xs) = (h x, every_mapped Q h xs)
  command_names Q h (RemoveClass c) = h c
  command_names Q h (AddInstVar c x) = (h c, h x)
  command_names Q h (RenameInstVar c x y) = (h c, h x, h y)
  command_names Q h (RemoveInstVar c x) = (h c, h x)
  command_names Q h (PushUpInstVar c x) = (h c, h x)
  command_names Q h (PushDownInstVar c x) = (h c, h x)
  command_names Q h (AddClassVar c x) = (h c, h x)
  command_names Q h (RenameClassVar c x y) = (h c, h x, h y)
  command_names Q h (RemoveClassVar c x) = (h c, h x)
  command_names Q h (PushUpClassVar c x) = (h c, h x)
  command_names Q h (PushDownClassVar c x d) = (h c, h x, h d)
  command_names Q h (AddClassSideVar c x) = (h c, h x)
  command_names Q h (RenameClassSideVar c x y) = (h c, h x, h y)
  command_names Q h (RemoveClassSideVar c x) = (h c, h x)
  command_names Q h (RenameSelector s t) = (h s, h t)
  command_names Q h (AddMethod c meta protocol text tree) = (h c, MethodNames-map_method Q (plain P) tree (every_method (λ (x : Restricted P). Q x.0) h tree))
  command_names Q h (RemoveMethod c meta s) = (h c, h s)
  command_names Q h (PushUpMethod c meta s) = (h c, h s)
  command_names Q h (PushDownMethod c meta s) = (h c, h s)
  command_names Q h (AddParameter s t x passed) = (h s, h t, h x, AllNames-map_names Q (plain P) (literal passed) (every_literal (λ (n : Restricted P). Q n.0) h passed))
  command_names Q h (RemoveParameter s k t) = (h s, h t)
  command_names Q h (AbstractInstVar c x setter given) = (h c, h x, h setter, h given)
  command_names Q h (ExtractMethod c meta s from to t) = (h c, h s, h t)
  command_names Q h (InlineMethod c meta s from to) = (h c, h s)
  command_names Q h (ExtractTemp c meta s from to x) = (h c, h s, h x)
  command_names Q h (InlineTemp c meta s x) = (h c, h s, h x)
  command_names Q h (RenameTemp c meta s x y) = (h c, h s, h x, h y)

  -- a name of a command
  pub some_name : CommandOf (Restricted P) → Restricted P
  some_name (RenameClass c d) = c
  some_name (AddClass d p under) = d
  some_name (RemoveClass c) = c
  some_name (AddInstVar c x) = c
  some_name (RenameInstVar c x y) = c
  some_name (RemoveInstVar c x) = c
  some_name (PushUpInstVar c x) = c
  some_name (PushDownInstVar c x) = c
  some_name (AddClassVar c x) = c
  some_name (RenameClassVar c x y) = c
  some_name (RemoveClassVar c x) = c
  some_name (PushUpClassVar c x) = c
  some_name (PushDownClassVar c x d) = c
  some_name (AddClassSideVar c x) = c
  some_name (RenameClassSideVar c x y) = c
  some_name (RemoveClassSideVar c x) = c
  some_name (RenameSelector s t) = s
  some_name (AddMethod c meta protocol text tree) = c
  some_name (RemoveMethod c meta s) = c
  some_name (PushUpMethod c meta s) = c
  some_name (PushDownMethod c meta s) = c
  some_name (AddParameter s t x passed) = s
  some_name (RemoveParameter s k t) = s
  some_name (AbstractInstVar c x setter given) = c
  some_name (ExtractMethod c meta s from to t) = c
  some_name (InlineMethod c meta s from to) = c
  some_name (ExtractTemp c meta s from to x) = c
  some_name (InlineTemp c meta s x) = c
  some_name (RenameTemp c meta s x y) = c

  -- what holds of images and commands over these names holds of those whose names have the fact
  pub by_restricted : (S : ImageOf M → CommandOf M → Type 0) → ((k : ImageOf (Restricted P)) (c : CommandOf (Restricted P)) → S (map_image (plain P) k) (map_command (plain P) c))
      → (i : ImageOf M) (command : CommandOf M) → ImageNames P i → CommandNames P command → S i command
  by_restricted S h i command p q =
      let k = lifted_image i p in
      let c = lifted_command command q in
      subst (λ (x : ImageOf M). S x command) k.1 (subst (λ (x : CommandOf M). S (map_image (plain P) k.0) x) c.1 (h k.0 c.0))

  pub by_restricted_condition : (S : ConditionOf M → Type 0) → ((k : ConditionOf (Restricted P)) → S (map_condition (plain P) k)) → (condition : ConditionOf M) → ConditionNames P condition → S condition
  by_restricted_condition S h condition p = let k = lifted_condition condition p in subst S k.1 (h k.0)

  -- what holds of commands over these names holds of those whose names have the fact
  pub by_restricted_command : (S : CommandOf M → Type 0) → ((k : CommandOf (Restricted P)) → S (map_command (plain P) k)) → (command : CommandOf M) → CommandNames P command → S command
  by_restricted_command S h command p = let k = lifted_command command p in subst S k.1 (h k.0)

-- a fact of each name in a command follows from another
pub CommandNames-implies : {M : Type 0} (P Q : M → Type 0) → ((n : M) → P n → Q n) → (command : CommandOf M) → CommandNames P command → CommandNames Q command
CommandNames-implies P Q h = by_restricted_command P (CommandNames Q) (command_names P Q (λ x. h x.0 x.1))

-- two functions that agree on all names of a command make the same command of it
pub map_command-same : {M N : Type 0} (f g : M → N) (command : CommandOf M) → CommandNames (λ n. f n ≡ g n) command → map_command f command ≡ map_command g command
map_command-same {M} {N} f g = by_restricted_command (λ n. f n ≡ g n) (λ command. map_command f command ≡ map_command g command) (λ k.
    map_command-map_command f (plain (λ n. f n ≡ g n)) k ∙ (λ i. map_command (λ (x : Restricted (λ n. f n ≡ g n)). x.1 i) k) ∙ sym (map_command-map_command g (plain (λ n. f n ≡ g n)) k))
