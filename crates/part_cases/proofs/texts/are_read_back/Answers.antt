use Rattle.part_cases.proofs.texts.are_read_back.Goals as goal

pub text_of-requires : goal.text_of-requires
text_of-requires c = c.requires.told c.args.names.now
