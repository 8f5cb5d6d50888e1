use Rattle.std.proofs.Common.{◌≡◌, ◌++◌, Some, refl, length}
use Rattle.std.specs.Prelude.{slice_get}
use Rattle.std.proofs.lemmas.Option.{slice_get_read}
use Rattle.relay_connection.specs.declared.stream.RelayStream.{RelayStream}
use Rattle.relay_connection.specs.Streams.{put, sent}
use Rattle.relay_connection.proofs.Places.{as_some, put_at}
use Rattle.relay_connection.proofs.streams.send_at.Goals as goal

pub returns-clause-streams : goal.returns-clause-streams
returns-clause-streams c =
    let xs = c.args.streams.now.items in
    let x = c.index_mut.result.now in
    let there : slice_get xs c.args.place ≡ Some x = slice_get_read xs (length xs) c.args.place x refl c.requires c.index_mut.ensures.value in
    as_some (λ (s : RelayStream). c.settle.new.streams.items ≡ put xs c.args.place (sent c.args.link.now.wire s).stream) xs c.args.place x there
    (put_at xs c.settle.new.streams.items c.args.place x c.send.new.self (sent c.args.link.now.wire x).stream there c.in_ok-send.ensures.stream c.settle.ensures)

pub returns-clause-link : goal.returns-clause-link
returns-clause-link c =
    let xs = c.args.streams.now.items in
    let x = c.index_mut.result.now in
    let there : slice_get xs c.args.place ≡ Some x = slice_get_read xs (length xs) c.args.place x refl c.requires c.index_mut.ensures.value in
    as_some (λ (s : RelayStream). c.send.new.link ≡ record c.args.link.now { wire = (sent c.args.link.now.wire s).wire }) xs c.args.place x there c.in_ok-send.ensures.link

pub returns-clause-out : goal.returns-clause-out
returns-clause-out c =
    let xs = c.args.streams.now.items in
    let x = c.index_mut.result.now in
    let there : slice_get xs c.args.place ≡ Some x = slice_get_read xs (length xs) c.args.place x refl c.requires c.index_mut.ensures.value in
    as_some (λ (s : RelayStream). c.send.new.out.items ≡ c.args.out.now.items ++ (sent c.args.link.now.wire s).octets) xs c.args.place x there c.in_ok-send.ensures.out
