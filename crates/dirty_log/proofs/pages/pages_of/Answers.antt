use Rattle.std.proofs.Common.{is_ok, true, ℕ, ◌≡◌, ◌+◌, ◌++◌, List, ap, arith, length, vec_len}
use Rattle.dirty_log.proofs.PageLaws.{told_zero, told_none, told_all, told_set, told_clear, all_told, page_told, room_kept}
use Rattle.dirty_log.proofs.pages.pages_of.Goals.{then-rest-eq1, else-rest-eq1}
use Rattle.dirty_log.proofs.pages.pages_of.Goals as goal

pub loop-bit-init : goal.loop-bit-init
loop-bit-init c =
    let all = told_all c.before.args.base c.before.args.bits in
    record {
      pages = ap (λ xs. c.before.args.out.now.items ++ xs) all;
      len = ap (λ (xs : List ℕ). vec_len c.before.args.out.now + length xs) all;
      room = c.before.requires.room;
      capacity = omega arith;
    }

pub returns-then-rest-eq0-clause-pages : goal.returns-then-rest-eq0-clause-pages
returns-then-rest-eq0-clause-pages c =
    all_told _ _ _ (told_none _ _ _ c.if-rest-eq0.true) c.loop-bit.invariant.pages

pub returns-then-rest-eq0-clause-room : goal.returns-then-rest-eq0-clause-room
returns-then-rest-eq0-clause-room c =
    room_kept _ _ _ _ _ _ (told_none _ _ _ c.if-rest-eq0.true) c.loop-bit.invariant.len c.loop-bit.invariant.capacity

pub loop-bit-preserved : goal.loop-bit-preserved
loop-bit-preserved c = elim c.if-rest-eq1.branch [
  | then-rest-eq1 w ↦
      let left = told_set c.loop-bit.bit c.args.base c.loop-bit.rest w.if-rest-eq1.true c.loop-bit-test.true in
      let ok : is_ok w.push.result ≡ true = w.push.ensures.succeeds (omega (arith, c.loop-bit.invariant.room, c.loop-bit-test.true)) in
      let items = rw ok at w.push.ensures.items in
      let len = rw ok at w.push.ensures.len in
      rw w.out-is (record {
        pages = rw items (page_told _ _ _ _ _ left c.loop-bit.invariant.pages);
        len = omega (arith, len, ap length left, c.loop-bit.invariant.len);
        room = omega (arith, len, c.loop-bit.invariant.room, w.push.ensures.capacity, c.loop-bit-test.true);
        capacity = omega (arith, c.loop-bit.invariant.capacity, w.push.ensures.capacity);
      })
  | else-rest-eq1 w ↦
      let left = told_clear c.loop-bit.bit c.args.base c.loop-bit.rest w.if-rest-eq1.false c.loop-bit-test.true in
      rw w.out-is (record {
        pages = rw left at c.loop-bit.invariant.pages;
        len = rw left at c.loop-bit.invariant.len;
        room = omega (arith, c.loop-bit.invariant.room, c.loop-bit-test.true);
        capacity = c.loop-bit.invariant.capacity;
      })
]

pub returns-clause-pages : goal.returns-clause-pages
returns-clause-pages c =
    all_told _ _ _ (told_zero _ _ _ (omega (arith, c.loop-bit-test.false))) c.loop-bit.invariant.pages

pub returns-clause-room : goal.returns-clause-room
returns-clause-room c =
    room_kept _ _ _ _ _ _ (told_zero _ _ _ (omega (arith, c.loop-bit-test.false))) c.loop-bit.invariant.len c.loop-bit.invariant.capacity
