-- An image and the one in which an expression of one method is a new method.
use Rattle.std.specs.Prelude.{◌≡◌, ℕ, Bool, true, false, List, [], ◌∷◌, ◌++◌, map, length, Some, None, codes}
use Rattle.std.specs.List.{AllByRecursion}
use Rattle.rb_base.specs.Names.{text_eq}
use Rattle.scope_model.specs.SpecialNames.{control_form}
use Rattle.scope_model.specs.Control.{is_control}
use Rattle.tree_model.specs.Tree.{TreeOf, var, send, return, trees_of, no_statements, more_statements, Notes}
use Rattle.tree_model.specs.Path.{part_in, method_replaced}
use Rattle.image_model.specs.Image.{EntryOf, DoItOf, ImageOf}
use Rattle.image_model.specs.Means.{means_outside}
use Rattle.image_model.specs.Words.{text_words}
use Rattle.run_model.specs.Values.{Name}
use Rattle.resolved_model.specs.ResolvedImages.{resolved_entry, resolved_image}
use Rattle.resolved_model.specs.Environments.{opened}
use Rattle.unfolded_calls.specs.Unfolding.{Allowed, StandIn, IsOpen, IsTarget}
use Rattle.unfolded_calls.specs.SendsOnly.{StatementsSendOnly}
use Rattle.unfolded_places.specs.PartsReplaced.{declared_among, StaysMessageAmong}
use Rattle.unfolded_places.specs.Inlining.{PlainActuals}
use Rattle.unfolded_places.specs.Fillings.{MayFill}

-- the one selector that may be missing
abbrev pub one_gone : Name → Allowed
one_gone t = record { is_gone = λ s. text_eq s t; reach = 0 }

-- a method, and a do-it, that does not send the selector
abbrev pub IsSentNowhereIn : Name → EntryOf Name → Type 0
IsSentNowhereIn t m = StatementsSendOnly (λ s. text_eq s t ≡ false) m.tree.body.statements

abbrev pub IsSentNowhereBy : Name → DoItOf Name → Type 0
IsSentNowhereBy t d = StatementsSendOnly (λ s. text_eq s t ≡ false) d.body.statements

-- the names as arguments
abbrev pub call_of : Name → List Name → TreeOf Name
call_of t names = send (var (codes "self")) t (trees_of (map (λ n. var n) names))

-- In a method of a class and side, not of `Class` or a class above it, a send to self of a fresh selector stands where a path led to an expression; a new method of that class and side answers it, with arguments that are called as those of the arguments and block parameters which it reads.
pub record IsExtractedOnce (i j : ImageOf Name) : Type 0 where
  pub earlier : List (EntryOf Name)
  pub between : List (EntryOf Name)
  pub later : List (EntryOf Name)
  pub method : EntryOf Name
  pub methods : i.methods ≡ earlier ++ method ∷ (between ++ later)
  pub class : Name
  pub meta : Bool
  pub selector : Name
  pub names : List Name
  pub new : EntryOf Name
  pub source : List ℕ
  pub path : List ℕ
  pub part : TreeOf Name
  pub found : part_in method.tree.body path ≡ Some part
  pub after : j ≡ record i { methods = earlier ++ record method { source = source; tree = method_replaced method.tree path (call_of selector names) } ∷ (between ++ new ∷ later) }
  -- the new method
  pub new_class : new.class ≡ Some class
  pub new_meta : new.meta ≡ meta
  pub new_selector : new.tree.selector ≡ selector
  pub new_arguments : new.tree.arguments ≡ names
  pub new_primitive : new.tree.primitive ≡ None
  pub new_temporaries : new.tree.body.temporaries ≡ []
  pub note : Notes
  pub new_statements : new.tree.body.statements ≡ more_statements note (return part) no_statements
  -- the selector
  pub opens : IsOpen (resolved_image j) (one_gone selector) (resolved_entry j method) (class, meta)
  pub target : IsTarget (resolved_image j) (one_gone selector) class meta selector (resolved_entry j new)
  pub sent_earlier : AllByRecursion (IsSentNowhereIn selector) earlier
  pub sent_there : IsSentNowhereIn selector method
  pub sent_between : AllByRecursion (IsSentNowhereIn selector) between
  pub sent_later : AllByRecursion (IsSentNowhereIn selector) later
  pub sent_by_doits : AllByRecursion (IsSentNowhereBy selector) i.doits
  -- the expression
  pub message : is_control control_form (call_of selector names) ≡ false
  pub still : StaysMessageAmong method.tree.body.statements path (call_of selector names) part
  pub no_super : part ≡ var (codes "super") → ⊥
  pub actuals : List StandIn
  pub plain : PlainActuals (λ n. means_outside text_words j method.class method.meta n) (declared_among (opened method.tree.arguments method.tree.body.temporaries []) method.tree.body.statements path) (trees_of (map (λ n. var n) names)) actuals
  pub count : length names ≡ length actuals
  pub may : MayFill
      (record { arguments = names; passed = trees_of (map (λ n. var n) names); before = λ n. means_outside text_words j new.class new.meta n; after = λ n. means_outside text_words j method.class method.meta n; round = declared_among (opened method.tree.arguments method.tree.body.temporaries []) method.tree.body.statements path })
      true (λ s. text_eq s selector) [] part
