-- What is reached in a small image, and the image without the rest.
use Rattle.std.specs.Prelude.{◌≡◌, List, [], ◌∷◌, Bool, true, false, Option, Some, None, codes}
use Rattle.rb_base.specs.Names.{text_eq}
use Rattle.tree_model.specs.Tree.{number, TreeOf, var, literal, send, return, trees_of, no_trees, more_statements, no_statements}
use Rattle.image_model.specs.Image.{ClassOf, EntryOf, DoItOf, ImageOf, plus}
use Rattle.image_model.specs.Words.{text_words}
use Rattle.query_model.specs.Lines.{Text}
use Rattle.strip_model.specs.Reach.{ReachOf, nothing, is_closed, reach}
use Rattle.strip_model.specs.Stripped.{strip, certificate}

-- a class without variables
abbrev pub class_of : Bool → Text → Option Text → ClassOf Text
class_of kernel n superclass = record { name = n; superclass = superclass; instance = []; shared = []; class_side = []; category = []; comment = []; kernel = kernel }

-- a method of the instance side that answers an expression
abbrev pub answering : Text → Text → TreeOf Text → EntryOf Text
answering c s t = record {
  class = Some c;
  meta = false;
  protocol = [];
  source = [];
  tree = record { selector = s; arguments = []; head = []; primitive = None; body = record { temporaries = []; statements = more_statements [] (return t) no_statements; tail = [] } };
  kernel = false;
}

-- a method `+` of `Integer`; it counts as one of the kernel, and its body is of no account here
abbrev pub sum_method : EntryOf Text
sum_method = record {
  class = Some (codes "Integer");
  meta = false;
  protocol = [];
  source = [];
  tree = record { selector = codes "+"; arguments = codes "a" ∷ []; head = []; primitive = Some 1; body = record { temporaries = []; statements = no_statements; tail = [] } };
  kernel = true;
}

-- a message without arguments
abbrev pub unary : TreeOf Text → Text → TreeOf Text
unary r s = send r s no_trees

abbrev pub numeral : Text → TreeOf Text
numeral t = literal (number t)

-- the classes and methods: A and C below Object, and B below A
abbrev pub object_class : ClassOf Text
object_class = class_of true (codes "Object") None

abbrev pub integer_class : ClassOf Text
integer_class = class_of true (codes "Integer") (Some (codes "Object"))

abbrev pub a_below : ClassOf Text
a_below = class_of false (codes "A") (Some (codes "Object"))

abbrev pub b_below : ClassOf Text
b_below = class_of false (codes "B") (Some (codes "A"))

abbrev pub c_below : ClassOf Text
c_below = class_of false (codes "C") (Some (codes "Object"))

abbrev pub a_one : EntryOf Text
a_one = answering (codes "A") (codes "one") (numeral (codes "1"))

abbrev pub a_two : EntryOf Text
a_two = answering (codes "A") (codes "two") (unary (var (codes "C")) (codes "new"))

abbrev pub b_one : EntryOf Text
b_one = answering (codes "B") (codes "one") (send (unary (var (codes "super")) (codes "one")) (codes "+") (trees_of (numeral (codes "1") ∷ [])))

abbrev pub b_three : EntryOf Text
b_three = answering (codes "B") (codes "three") (unary (var (codes "self")) (codes "two"))

-- the image with these classes and methods
abbrev pub image_with : List (ClassOf Text) → List (EntryOf Text) → ImageOf Text
image_with classes methods = record { classes = object_class ∷ integer_class ∷ classes; methods = sum_method ∷ methods; doits = []; heads = 0 }

abbrev pub whole : ImageOf Text
whole = image_with (a_below ∷ b_below ∷ c_below ∷ []) (a_one ∷ a_two ∷ b_one ∷ b_three ∷ [])

-- a do-it of one statement
abbrev pub doit_of : TreeOf Text → DoItOf Text
doit_of t = record { source = []; body = record { temporaries = []; statements = more_statements [] t no_statements; tail = [] } }

-- `B new one`, and `C new two`, which C does not understand
abbrev pub b_new_one : DoItOf Text
b_new_one = doit_of (unary (unary (var (codes "B")) (codes "new")) (codes "one"))

abbrev pub c_new_two : DoItOf Text
c_new_two = doit_of (unary (unary (var (codes "C")) (codes "new")) (codes "two"))

-- what is reached with a do-it
abbrev pub reached_with : DoItOf Text → ReachOf Text
reached_with e = reach text_words (plus whole e)

-- the images that are left, the lines that tell what is reached, and that nothing at all is not closed
pub record AreStripped : Type 0 where
  pub one_left : strip text_eq (reached_with b_new_one) whole ≡ image_with (a_below ∷ b_below ∷ []) (a_one ∷ b_one ∷ [])
  pub one_lines : certificate (reached_with b_new_one) whole ≡ codes "class A\nclass B\nmethod A>>one\nmethod B>>one\n"
  pub two_left : strip text_eq (reached_with c_new_two) whole ≡ image_with (c_below ∷ []) []
  pub two_lines : certificate (reached_with c_new_two) whole ≡ codes "class C\n"
  pub not_closed : is_closed text_words (plus whole b_new_one) nothing ≡ false
