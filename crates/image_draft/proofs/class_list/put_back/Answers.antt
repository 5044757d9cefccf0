use Rattle.image_draft.proofs.PutBack.{turned_within}
use Rattle.image_draft.proofs.class_list.put_back.Goals as goal

pub returns : goal.returns
returns c =
    turned_within c.args.from c.args.to c.args.classes.now.len c.args.classes.now.items c.deref_mut.result.now c.rotate_left.new.self c.deref_mut.ensures.value c.deref_mut.ensures.len c.requires.before c.requires.within c.rotate_left.ensures.after
