use Rattle.std.proofs.Common.{◌≡◌, ◌+◌, length, take, drop, sym, ◌∙◌, ap, arith, length-drop}
use Rattle.std.proofs.lemmas.List.{take_at, length-take, with_items_is}
use Rattle.std.specs.Vec.{with_items}
use Rattle.journal.specs.Format.{Link, Group, header as header_of}
use Rattle.journal.proofs.Lines.{at_place, same_numbers, same_front, sum_field, sum_is, stands_at}
use Rattle.journal.proofs.Texts.{header_anywhere}
use Rattle.journal.proofs.found.group_at.Goals as goal

pub returns-then-len-at-lt-HEADER_BYTES-clause-none : goal.returns-then-len-at-lt-HEADER_BYTES-clause-none
returns-then-len-at-lt-HEADER_BYTES-clause-none g c = λ file holds sized_file link group more same_file sized there fits stands.
    let at = at_place link (ap length same_file ∙ c.requires.identifier) sized group file more c.args.at stands in
    let long = at.2 in
    omega arith

pub returns-in_default-clause-none : goal.returns-in_default-clause-none
returns-in_default-clause-none g c = λ file holds sized_file link group more same_file sized there fits stands.
    let at = at_place link (ap length same_file ∙ c.requires.identifier) sized group file more c.args.at stands in
    let read = c.in_ok-read_at.ensures.bytes file holds (omega arith) in
    let none = rw c.in_default.is at c.in_ok-header.ensures.none in
    none link group same_file sized fits (read ∙ at.0)

pub returns-then-header-at-clause-none : goal.returns-then-header-at-clause-none
returns-then-header-at-clause-none g c = λ file holds sized_file link group more same_file sized there fits stands.
    let named = ap length same_file ∙ c.requires.identifier in
    let at = at_place link named sized group file more c.args.at stands in
    let read = c.in_ok-read_at.ensures.bytes file holds (omega arith) in
    let digits = rw c.in-Some.is at c.in_ok-header.ensures.digits in
    let small = rw c.in-Some.is at c.in_ok-header.ensures.small in
    let same = same_numbers link named sized group fits c.read_at.new.buffer c.in-Some.header.numbers (read ∙ at.0) digits small.0 in
    omega (arith, same.2, fits.durable, there)

pub returns-then-header-len-clause-none : goal.returns-then-header-len-clause-none
returns-then-header-len-clause-none g c = λ file holds sized_file link group more same_file sized there fits stands.
    let named = ap length same_file ∙ c.requires.identifier in
    let at = at_place link named sized group file more c.args.at stands in
    let read = c.in_ok-read_at.ensures.bytes file holds (omega arith) in
    let digits = rw c.in-Some.is at c.in_ok-header.ensures.digits in
    let small = rw c.in-Some.is at c.in_ok-header.ensures.small in
    let same = same_numbers link named sized group fits c.read_at.new.buffer c.in-Some.header.numbers (read ∙ at.0) digits small.0 in
    omega (arith, same.1, at.2)

pub returns-then-not-same-clause-none : goal.returns-then-not-same-clause-none
returns-then-not-same-clause-none g c = λ file holds sized_file link group more same_file sized there fits stands.
    let named = ap length same_file ∙ c.requires.identifier in
    let at = at_place link named sized group file more c.args.at stands in
    let read = c.in_ok-read_at.ensures.bytes file holds (omega arith) in
    let digits = rw c.in-Some.is at c.in_ok-header.ensures.digits in
    let small = rw c.in-Some.is at c.in_ok-header.ensures.small in
    let same = same_numbers link named sized group fits c.read_at.new.buffer c.in-Some.header.numbers (read ∙ at.0) digits small.0 in
    let front = rw c.in-Some.is at c.in_ok-header.ensures.front in
    let before = rw c.in-Some.is at c.in_ok-header.ensures.before in
    let is_front = c.deref.ensures.value ∙ front ∙ same_front link named sized group fits c.read_at.new.buffer c.in-Some.header.numbers c.args.identifier.now c.in-Some.header.before same_file (read ∙ at.0) digits small.0 before in
    let room : length c.deref_mut.result.now ≡ c.in-Some.header.numbers.len = omega (arith, ap length c.deref_mut.ensures.value, c.in_ok-text.ensures.len, c.in_ok-text.text.ok.0) in
    let body = c.in_ok-read_at-2.ensures.bytes file (c.in_ok-read_at.ensures.file file holds) (omega arith) in
    let text : c.read_at-2.new.buffer ≡ group.text = body ∙ ap (λ n. take n (drop (c.args.at + 185) file)) room ∙ ap (λ l. take c.in-Some.header.numbers.len l) at.1 ∙ take_at group.text more c.in-Some.header.numbers.len (sym same.1) in
    let filled : length c.read_at-2.new.buffer ≡ c.in_ok-text.text.len = omega (arith, ap length text, same.1, c.in_ok-text.ensures.len) in
    let is_text = c.deref-2.ensures.value ∙ with_items_is c.in_ok-text.text c.read_at-2.new.buffer filled ∙ text in
    c.same.ensures.apart c.if-not-same.true
    (ap (λ l. take 64 (drop 120 l)) (read ∙ at.0) ∙ sum_field link named sized group ∙ sym (c.sum-sum.ensures ∙ sum_is link group c.deref.result.now c.deref-2.result.now is_front is_text))

pub returns-clause-found : goal.returns-clause-found
returns-clause-found g c = λ file holds sized_file.
    let id = c.args.identifier.now in
    let line = c.read_at.new.buffer in
    let header = c.in-Some.header in
    let items = (with_items c.in_ok-text.text c.read_at-2.new.buffer).items in
    let link : Link = record { identifier = id; number = header.numbers.number; before = header.before; place = c.args.at } in
    let group : Group = record { durable = header.numbers.durable; text = items } in
    let read = c.in_ok-read_at.ensures.bytes file holds (omega arith) in
    let small = rw c.in-Some.is at c.in_ok-header.ensures.small in
    let parts = rw c.in-Some.is at c.in_ok-header.ensures.line in
    let before = rw c.in-Some.is at c.in_ok-header.ensures.before in
    let line_sized : length line ≡ 185 = omega (arith, ap length read, length-take 185 (drop c.args.at file), length-drop c.args.at file) in
    let summed : length header.before ≡ 64 = omega (arith, ap length before, length-take 64 (drop 55 line), length-drop 55 line) in
    let room : length c.deref_mut.result.now ≡ header.numbers.len = omega (arith, ap length c.deref_mut.ensures.value, c.in_ok-text.ensures.len, c.in_ok-text.text.ok.0) in
    let body : c.read_at-2.new.buffer ≡ take header.numbers.len (drop (c.args.at + 185) file) =
    c.in_ok-read_at-2.ensures.bytes file (c.in_ok-read_at.ensures.file file holds) (omega arith) ∙ ap (λ n. take n (drop (c.args.at + 185) file)) room in
    let filled : length c.read_at-2.new.buffer ≡ header.numbers.len = omega (arith, ap length body, length-take header.numbers.len (drop (c.args.at + 185) file), length-drop (c.args.at + 185) file) in
    let is_items : items ≡ c.read_at-2.new.buffer = with_items_is c.in_ok-text.text c.read_at-2.new.buffer (omega (arith, filled, c.in_ok-text.ensures.len)) in
    let len : header.numbers.len ≡ length items = omega (arith, ap length is_items, filled) in
    let front = (rw c.in-Some.is at c.in_ok-header.ensures.front) ∙ header_anywhere id header.before header.numbers.number 0 c.args.at header.numbers.len header.numbers.durable ∙ ap (λ n. header_of link n header.numbers.durable) len in
    let sum = c.sum-sum.ensures ∙ sum_is link group c.deref.result.now c.deref-2.result.now (c.deref.ensures.value ∙ front) c.deref-2.ensures.value in
    record {
      more = drop (c.args.at + 185 + length items) file;
      sized = summed;
      stands = stands_at link group file line header.front.items c.args.at c.requires.identifier summed read parts front (c.same.ensures.same c.if-not-same.false ∙ sum)
          (is_items ∙ body ∙ ap (λ n. take n (drop (c.args.at + 185) file)) len);
      fits = record { number = small.0.0; place = omega arith; text = omega (arith, small.1, len); durable = c.if-header-at.false };
      sum = sum;
    }
