use Rattle.vcpu_pass.proofs.HandLaws.{carries_place}
use Rattle.vcpu_pass.proofs.LoadLaws.{words_done}
use Rattle.vcpu_pass.proofs.memory.read_words.Goals as goal

pub load_words-requires-clause-carried : goal.load_words-requires-clause-carried
load_words-requires-clause-carried c = carries_place c.args.pass.now c.args.place.now c.requires.entered c.requires.placed

pub returns : goal.returns
returns c =
    let same = c.load_words.ensures.same in
    words_done c.args.pass.now c.load_words.new.pass c.args.place.now c.args.offset _ c.load_words.new.out c.requires.placed c.requires.begins
    c.load_words.auto.out (same.0, same.1, same.2, c.load_words.ensures.edition) c.load_words.ensures.loaded
