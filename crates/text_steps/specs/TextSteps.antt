-- Steps of certificates over texts, where texts stand for metavariables.
use Rattle.std.specs.Prelude.{◌≡◌, Bool, false, if◌then◌else◌, Option, Some, None, option_and_then}
use Rattle.std.specs.List.{list_all, concat}
use Rattle.rb_base.specs.Names.{text_eq}
use Rattle.scope_model.specs.declared.local.ControlForm.TheVariants.{NoControl}
use Rattle.scope_model.specs.SpecialNames.{is_pseudo_variable, control_form}
use Rattle.text_model.specs.Literals.{is_identifier}
use Rattle.tree_model.specs.Tree.{TreeOf}
use Rattle.pattern_model.specs.Patterns.{SelectorLike, this_selector, any_unary, of_keywords, any_message, PatternOf, meta, var_like, literal_like, send_like, cascade_like, assign_like, block_like, brace_like, return_like, PatternsOf, no_patterns, more_patterns, MessagesLike, no_messages_like, more_messages_like, StatementsLike, no_statements_like, more_statements_like}
use Rattle.pattern_model.specs.Bindings.{BindingOf}
use Rattle.pattern_model.specs.Fill.{fill}
use Rattle.pattern_model.specs.MatchTree.{match_tree}
use Rattle.pattern_model.specs.Named.{map_bound, map_pattern}
use Rattle.pattern_model.specs.Words.{text_keywords, text_pattern_words}
use Rattle.certified_model.specs.Marks.{Text, Mark, plain, is_same_mark, of_plain, is_unary_mark}
use Rattle.certified_model.specs.Certificates.{is_fit}

-- texts stand for marks: they are told apart alike, and what patterns ask of a text is answered as of its mark
pub record IsNaming (mark : Text → Mark) : Type 0 where
  pub same : (a b : Text) → text_eq a b ≡ is_same_mark (mark a) (mark b)
  pub is_pseudo : (a : Text) → is_pseudo_variable a ≡ of_plain is_pseudo_variable false (mark a)
  pub form : (a : Text) → control_form a ≡ of_plain control_form NoControl (mark a)
  pub is_unary : (a : Text) → is_identifier a ≡ is_unary_mark (mark a)
  pub keywords : (a : Text) → text_keywords a ≡ of_plain text_keywords None (mark a)

-- no selector of a pattern is one by its keywords
abbrev pub IsWhole : {N : Type 0} → SelectorLike N → Type 0
IsWhole (of_keywords ks) = ⊥
IsWhole s = Unit {0}

abbrev mutual
  pub HasWholeSelectors : {N : Type 0} → PatternOf N → Type 0
  HasWholeSelectors (meta m) = Unit {0}
  HasWholeSelectors (var_like n) = Unit {0}
  HasWholeSelectors (literal_like l) = Unit {0}
  HasWholeSelectors (send_like r s ps) = HasWholeSelectors r × IsWhole s × HaveWholeSelectors ps
  HasWholeSelectors (cascade_like r ms) = HasWholeSelectors r × WholeMessages ms
  HasWholeSelectors (assign_like n p) = HasWholeSelectors p
  HasWholeSelectors (block_like ps ts ss e) = WholeStatements ss
  HasWholeSelectors (brace_like ps) = HaveWholeSelectors ps
  HasWholeSelectors (return_like p) = HasWholeSelectors p

  pub HaveWholeSelectors : {N : Type 0} → PatternsOf N → Type 0
  HaveWholeSelectors no_patterns = Unit {0}
  HaveWholeSelectors (more_patterns p ps) = HasWholeSelectors p × HaveWholeSelectors ps

  pub WholeMessages : {N : Type 0} → MessagesLike N → Type 0
  WholeMessages no_messages_like = Unit {0}
  WholeMessages (more_messages_like s ps ms) = IsWhole s × HaveWholeSelectors ps × WholeMessages ms

  pub WholeStatements : {N : Type 0} → StatementsLike N → Type 0
  WholeStatements no_statements_like = Unit {0}
  WholeStatements (more_statements_like c p ss) = HasWholeSelectors p × WholeStatements ss

-- each name in the sides of a law stands for itself, and the second side fills without keywords
pub record AreSides (mark : Text → Mark) (sides : PatternOf Text × PatternOf Text) : Type 0 where
  pub first : map_pattern mark sides.0 ≡ map_pattern plain sides.0
  pub second : map_pattern mark sides.1 ≡ map_pattern plain sides.1
  pub whole : HasWholeSelectors sides.1

-- a node that the one side matches, as the other side, over texts
abbrev pub turned_texts : (Text → Mark) → PatternOf Text × PatternOf Text → TreeOf Text → Option (TreeOf Text)
turned_texts mark sides t =
    option_and_then (λ bs. if list_all (λ (x : BindingOf Text). is_fit (map_bound mark x.bound)) bs then Some (fill text_eq concat bs sides.1) else None) (match_tree text_pattern_words sides.0 t)
