-- Do-its stay do-its where laws of rewriting are applied in them.
use Rattle.std.proofs.Common.{◌≡◌, Bool, true, false, List, [], ◌∷◌, Option, Some, None, refl, sym, ap, subst, ◌∙◌, true≢false}
use Rattle.std.specs.Prelude.{◌&&◌, if◌then◌else◌, nat_eq, codes, option_map}
use Rattle.std.specs.List.{starts_with, AllZip, AllByRecursion}
use Rattle.std.specs.Option.{option_map_or}
use Rattle.rb_base.specs.Names.{text_eq}
use Rattle.token_model.specs.declared.kind.Dialect.TheVariants.{Second}
use Rattle.st_kernel.specs.Selectors.{is_reserved_selector}
use Rattle.tree_model.specs.Tree.{TreeOf, var, send, return, TreesOf, StatementsOf}
use Rattle.image_model.specs.Image.{DoItOf, ImageOf}
use Rattle.file_model.specs.Filing.{Text}
use Rattle.file_model.specs.Forms.{Form, Evaluates, Settles, no_form, definition_strings, the_argument, subclass_form, placed_strings, placed_subclass_form, placed_run_form, class_side_form, comment_form, run_form, removal_form, class_removal_form, definition_selector, placed_definition_selector, arguments_of, Receiver, name_in, receiver_of, Sent, sent_by, sent_in_statements, sent_of, is_to_system, replaces_doit, sent_form, form_of, is_doit}
use Rattle.certified_laws.specs.RewrittenTrees.{one_tree, two_trees, just_block, expression_block, Rewritten, same_var, in_send, forth_1, back_1, forth_2, back_2, forth_3, back_3, forth_4, back_4, forth_5, back_5, forth_6, back_6, forth_7, back_7, forth_8, back_8, back_10, LinesRewritten, no_line_rewritten, line_rewritten, forth_9, back_9, doit_with, DoItRewritten, RewrittenAlong}
use Rattle.effect_laws.proofs.Tests.{told_apart}
use Rattle.effect_laws.proofs.FormsKept.{not_reserved}

-- a message that is a do-it whatever is passed with it
pub record IsHarmless (m : Sent) : Type 0 where
  pub reserved : is_reserved_selector m.selector ≡ false
  pub settles : (is_to_system m && text_eq m.selector (codes "settlePlaces")) ≡ false
  pub replaces : replaces_doit m ≡ false

-- a selector that is not reserved is none by which something else is said
unreserved : (u v : Text) → is_reserved_selector u ≡ false → is_reserved_selector v ≡ true → text_eq u v ≡ false
unreserved u v h k = told_apart u v (λ q. true≢false (sym k ∙ ap is_reserved_selector (sym q) ∙ h))

are_reserved : (is_reserved_selector definition_selector ≡ true) × (is_reserved_selector (codes "instanceVariableNames:") ≡ true) × (is_reserved_selector placed_definition_selector ≡ true) × (is_reserved_selector (codes "methodsFor:at:") ≡ true)
    × (is_reserved_selector (codes "comment:") ≡ true) × (is_reserved_selector (codes "methodsFor:") ≡ true) × (is_reserved_selector (codes "removeSelector:") ≡ true) × (is_reserved_selector (codes "removeClassNamed:") ≡ true)
unfolding is_reserved_selector
are_reserved = (refl, refl, refl, refl, refl, refl, refl, refl)

-- what is left to ask of a message whose selector is not reserved
abbrev left_form : (settles replaces : Bool) → Form
left_form settles replaces = if settles then Settles else if replaces then no_form else Evaluates

form_left : (m : Sent) → is_reserved_selector m.selector ≡ false → sent_form Second false m ≡ left_form (is_to_system m && text_eq m.selector (codes "settlePlaces")) (replaces_doit m)
form_left m h =
    let n = λ (v : Text) (q : is_reserved_selector v ≡ true). unreserved m.selector v h q in
    (λ i. if n definition_selector are_reserved.0 i then subclass_form false m.class m.meta (definition_strings m.arguments)
    else if n (codes "instanceVariableNames:") are_reserved.1 i then class_side_form Second m.class m.meta (the_argument m.arguments)
    else if n placed_definition_selector are_reserved.2 i then placed_subclass_form false m.class m.meta (placed_strings m.arguments)
    else if n (codes "methodsFor:at:") are_reserved.3 i then placed_run_form m.class m.meta m.arguments
    else if is_to_system m && text_eq m.selector (codes "settlePlaces") then Settles
    else if replaces_doit m then no_form
    else if n (codes "comment:") are_reserved.4 i then comment_form m.class m.meta (the_argument m.arguments)
    else if n (codes "methodsFor:") are_reserved.5 i then run_form m.class m.meta (the_argument m.arguments)
    else if n (codes "removeSelector:") are_reserved.6 i then removal_form m.class m.meta (the_argument m.arguments)
    else if n (codes "removeClassNamed:") are_reserved.7 i then class_removal_form m.class m.meta (the_argument m.arguments)
    else if h i then no_form
    else Evaluates)

neither : (a b : Bool) → left_form a b ≡ Evaluates → (a ≡ false) × (b ≡ false)
neither true b e = absurd (true≢false (sym (ap is_doit e)))
neither false true e = absurd (true≢false (sym (ap is_doit e)))
neither false false e = (refl, refl)

harmless_of : (m : Sent) → sent_form Second false m ≡ Evaluates → IsHarmless m
harmless_of m e =
    let h = not_reserved m e in
    let both = neither (is_to_system m && text_eq m.selector (codes "settlePlaces")) (replaces_doit m) (sym (form_left m h) ∙ e) in
    record { reserved = h; settles = both.0; replaces = both.1 }

harmless_is : (m : Sent) → IsHarmless m → sent_form Second false m ≡ Evaluates
harmless_is m h = form_left m h.reserved ∙ (λ i. left_form (h.settles i) (h.replaces i))

-- of what a chunk says, if it is a message
abbrev pub AllHarmless : Option Sent → Type 0
AllHarmless o = (m : Sent) → o ≡ Some m → IsHarmless m

no_message : (o : Option Sent) → o ≡ None → AllHarmless o
no_message o e m f = let bad : ⊥ = cc in absurd bad

-- a control selector
record IsControl (s : Text) : Type 0 where
  reserved : is_reserved_selector s ≡ false
  settles : text_eq s (codes "settlePlaces") ≡ false
  replaces : starts_with nat_eq s (codes "replaceDoIt:") ≡ false

never : (a b : Bool) → b ≡ false → (a && b) ≡ false
never true b e = e
never false b e = refl

control_harmless : (c : TreeOf Text) (s : Text) (xs : TreesOf Text) → IsControl s → AllHarmless (sent_by (send c s xs))
control_harmless c s xs k m e = by (receiver_of c) e
  where
    by : (o : Option Receiver) → option_map (λ (r : Receiver). record { class = r.class; meta = r.meta; selector = s; arguments = arguments_of xs }) o ≡ Some m → IsHarmless m
    by None f = let bad : ⊥ = cc in absurd bad
    by (Some r) f =
        let now : Sent = record { class = r.class; meta = r.meta; selector = s; arguments = arguments_of xs } in
        let same : now ≡ m = cc in
        subst IsHarmless same (record {
          reserved = k.reserved;
          settles = never (is_to_system now) (text_eq s (codes "settlePlaces")) k.settles;
          replaces = never (is_to_system now) (starts_with nat_eq s (codes "replaceDoIt:")) k.replaces;
        })

if_true : IsControl (codes "ifTrue:")
unfolding is_reserved_selector
if_true = record { reserved = refl; settles = refl; replaces = refl }

if_false : IsControl (codes "ifFalse:")
unfolding is_reserved_selector
if_false = record { reserved = refl; settles = refl; replaces = refl }

true_false : IsControl (codes "ifTrue:ifFalse:")
unfolding is_reserved_selector
true_false = record { reserved = refl; settles = refl; replaces = refl }

false_true : IsControl (codes "ifFalse:ifTrue:")
unfolding is_reserved_selector
false_true = record { reserved = refl; settles = refl; replaces = refl }

and_also : IsControl (codes "and:")
unfolding is_reserved_selector
and_also = record { reserved = refl; settles = refl; replaces = refl }

or_else : IsControl (codes "or:")
unfolding is_reserved_selector
or_else = record { reserved = refl; settles = refl; replaces = refl }

-- names stay, and so do receivers
name_kept : {t u : TreeOf Text} → Rewritten t u → name_in u ≡ name_in t
name_kept h = by h
  where
    by : {t u : TreeOf Text} → Rewritten t u → name_in u ≡ name_in t
    by (same_var n) = refl
    by h = refl

receiver_kept : {t u : TreeOf Text} → Rewritten t u → receiver_of u ≡ receiver_of t
receiver_kept (in_send h s k) = ap (λ (o : Option Text). if text_eq s (codes "class") then option_map (λ n. record { class = n; meta = true }) o else None) (name_kept h)
receiver_kept h = refl

same_message : (r q : TreeOf Text) (s : Text) (xs ys : TreesOf Text) → receiver_of q ≡ receiver_of r → AllHarmless (sent_by (send r s xs)) → AllHarmless (sent_by (send q s ys))
same_message r q s xs ys same g m e = by (receiver_of q) refl e
  where
    by : (o : Option Receiver) → receiver_of q ≡ o → option_map (λ (c : Receiver). record { class = c.class; meta = c.meta; selector = s; arguments = arguments_of ys }) o ≡ Some m → IsHarmless m
    by None p f = let bad : ⊥ = cc in absurd bad
    by (Some c) p f =
        let before : Sent = record { class = c.class; meta = c.meta; selector = s; arguments = arguments_of xs } in
        let now : Sent = record { class = c.class; meta = c.meta; selector = s; arguments = arguments_of ys } in
        let there : sent_by (send r s xs) ≡ Some before = ap (option_map (λ (d : Receiver). record { class = d.class; meta = d.meta; selector = s; arguments = arguments_of xs })) (sym same ∙ p) in
        let h : IsHarmless before = g before there in
        let is : now ≡ m = cc in
        subst IsHarmless is (record { reserved = h.reserved; settles = h.settles; replaces = h.replaces })

tree_harmless : {t u : TreeOf Text} → Rewritten t u → AllHarmless (sent_by t) → AllHarmless (sent_by u)
tree_harmless (in_send {r} {r'} {args} {args'} h s k) g = same_message r r' s args args' (receiver_kept h) g
tree_harmless (forth_1 {c} {c'} {s} {s'} {t} {t'} d e f i hc hs ht) g = control_harmless c' (codes "ifFalse:ifTrue:") (two_trees (just_block t' f) (just_block s' i)) false_true
tree_harmless (back_1 {c} {c'} {s} {s'} {t} {t'} d e f i hc hs ht) g = control_harmless c' (codes "ifTrue:ifFalse:") (two_trees (just_block s' d) (just_block t' e)) true_false
tree_harmless (forth_2 {c} {c'} {s} {s'} d e f i hc hs) g = control_harmless c' (codes "ifTrue:ifFalse:") (two_trees (just_block s' e) (expression_block f (var (codes "nil")) i)) true_false
tree_harmless (back_2 {c} {c'} {s} {s'} d e f i hc hs) g = control_harmless c' (codes "ifTrue:") (one_tree (just_block s' d)) if_true
tree_harmless (forth_3 {c} {c'} {s} {s'} d e f i hc hs) g = control_harmless c' (codes "ifTrue:ifFalse:") (two_trees (expression_block f (var (codes "nil")) i) (just_block s' e)) true_false
tree_harmless (back_3 {c} {c'} {s} {s'} d e f i hc hs) g = control_harmless c' (codes "ifFalse:") (one_tree (just_block s' d)) if_false
tree_harmless (forth_4 {c} {c'} {s} {s'} d e f i hc hs) g = control_harmless c' (codes "ifTrue:ifFalse:") (two_trees (just_block s' e) (expression_block f (var (codes "false")) i)) true_false
tree_harmless (back_4 {c} {c'} {s} {s'} d e f i hc hs) g = control_harmless c' (codes "and:") (one_tree (just_block s' d)) and_also
tree_harmless (forth_5 {c} {c'} {s} {s'} d e f i hc hs) g = control_harmless c' (codes "ifTrue:ifFalse:") (two_trees (expression_block f (var (codes "true")) i) (just_block s' e)) true_false
tree_harmless (back_5 {c} {c'} {s} {s'} d e f i hc hs) g = control_harmless c' (codes "or:") (one_tree (just_block s' d)) or_else
tree_harmless (forth_6 {c} {c'} {s} {s'} d e f i hc hs) g = control_harmless c' (codes "ifFalse:ifTrue:") (two_trees (just_block s' e) (expression_block f (var (codes "nil")) i)) false_true
tree_harmless (back_6 {c} {c'} {s} {s'} d e f i hc hs) g = control_harmless c' (codes "ifFalse:") (one_tree (just_block s' d)) if_false
tree_harmless (forth_7 {x} {x'} {y} {y'} {z} {z'} d e f i h k l o hx hy hz) g = control_harmless x' (codes "and:") (one_tree (expression_block l (send y' (codes "and:") (one_tree (expression_block h z' k))) o)) and_also
tree_harmless (back_7 {x} {x'} {y} {y'} {z} {z'} d e f i h k l o hx hy hz) g = control_harmless (send x' (codes "and:") (one_tree (expression_block d y' e))) (codes "and:") (one_tree (expression_block f z' i)) and_also
tree_harmless (forth_8 {x} {x'} {y} {y'} {z} {z'} d e f i h k l o hx hy hz) g = control_harmless x' (codes "or:") (one_tree (expression_block l (send y' (codes "or:") (one_tree (expression_block h z' k))) o)) or_else
tree_harmless (back_8 {x} {x'} {y} {y'} {z} {z'} d e f i h k l o hx hy hz) g = control_harmless (send x' (codes "or:") (one_tree (expression_block d y' e))) (codes "or:") (one_tree (expression_block f z' i)) or_else
tree_harmless (back_10 {c} {c'} {x} {x'} {y} {y'} d e f i h k l o hx hy hz) g = control_harmless c' (codes "ifTrue:ifFalse:") (two_trees (expression_block d (return x') e) (expression_block f (return y') i)) true_false
tree_harmless h g = no_message None refl

lines_harmless : {ss rs : StatementsOf Text} → LinesRewritten ss rs → AllHarmless (sent_in_statements ss) → AllHarmless (sent_in_statements rs)
lines_harmless no_line_rewritten g = g
lines_harmless (line_rewritten c c' h no_line_rewritten) g = tree_harmless h g
lines_harmless (line_rewritten c c' h (line_rewritten d d' i k)) g = no_message None refl
lines_harmless (line_rewritten c c' h (forth_9 d e f m n k)) g = no_message None refl
lines_harmless (line_rewritten c c' h (back_9 d e f m n k)) g = no_message None refl
lines_harmless (forth_9 c d e m n k) g = no_message None refl
lines_harmless (back_9 c d e m n no_line_rewritten) g = no_message None refl
lines_harmless (back_9 c d e m n (line_rewritten f f' i k)) g = no_message None refl
lines_harmless (back_9 c d e m n (forth_9 f i j o p k)) g = no_message None refl
lines_harmless (back_9 c d e m n (back_9 f i j o p k)) g = no_message None refl

-- do-its
abbrev pub IsHarmlessDoIt : DoItOf Text → Type 0
IsHarmlessDoIt d = AllHarmless (sent_of d.body d.body.temporaries)

doit_harmless : (d e : DoItOf Text) → DoItRewritten d e → IsHarmlessDoIt d → IsHarmlessDoIt e
doit_harmless d e (source, ss, tail, same, lines) g = subst IsHarmlessDoIt (sym same) (by d.body.temporaries g)
  where
    by : (ts : List Text) → AllHarmless (sent_of d.body ts) → AllHarmless (sent_of (doit_with d source ss tail).body ts)
    by [] h = lines_harmless lines h
    by (t ∷ ts) h = no_message None refl

all_harmless : (ds es : List (DoItOf Text)) → AllZip DoItRewritten ds es → AllByRecursion IsHarmlessDoIt ds → AllByRecursion IsHarmlessDoIt es
all_harmless [] [] z h = tt
all_harmless [] (e ∷ es) z h = absurd z
all_harmless (d ∷ ds) [] z h = absurd z
all_harmless (d ∷ ds) (e ∷ es) z h = (doit_harmless d e z.0 h.0, all_harmless ds es z.1 h.1)

along_harmless : (i : ImageOf Text) (ks : List (ImageOf Text)) (j : ImageOf Text) → RewrittenAlong i ks j → AllByRecursion IsHarmlessDoIt i.doits → AllByRecursion IsHarmlessDoIt j.doits
along_harmless i [] j h g = all_harmless i.doits j.doits h.doits g
along_harmless i (k ∷ ks) j h g = along_harmless k ks j h.1 (all_harmless i.doits k.doits h.0.doits g)

-- what is a do-it is harmless, and the other way round
abbrev IsDoItForm : DoItOf Text → Type 0
IsDoItForm d = form_of Second false d.body ≡ Evaluates

harmless_doit : (d : DoItOf Text) → IsDoItForm d → IsHarmlessDoIt d
harmless_doit d e m f = harmless_of m (ap (λ (o : Option Sent). option_map_or (sent_form Second false) o Evaluates) (sym f) ∙ e)

doit_form : (d : DoItOf Text) → IsHarmlessDoIt d → IsDoItForm d
doit_form d h = by (sent_of d.body d.body.temporaries) refl
  where
    by : (o : Option Sent) → sent_of d.body d.body.temporaries ≡ o → option_map_or (sent_form Second false) o Evaluates ≡ Evaluates
    by None e = refl
    by (Some m) e = harmless_is m (h m e)

all_doits : (P Q : DoItOf Text → Type 0) → ((d : DoItOf Text) → P d → Q d) → (ds : List (DoItOf Text)) → AllByRecursion P ds → AllByRecursion Q ds
all_doits P Q f [] h = tt
all_doits P Q f (d ∷ ds) h = (f d h.0, all_doits P Q f ds h.1)

pub forms_along : (i : ImageOf Text) (ks : List (ImageOf Text)) (j : ImageOf Text) → RewrittenAlong i ks j → AllByRecursion (λ (d : DoItOf Text). form_of Second false d.body ≡ Evaluates) i.doits → AllByRecursion (λ (d : DoItOf Text). form_of Second false d.body ≡ Evaluates) j.doits
forms_along i ks j h g = all_doits IsHarmlessDoIt IsDoItForm doit_form j.doits (along_harmless i ks j h (all_doits IsDoItForm IsHarmlessDoIt harmless_doit i.doits g))
