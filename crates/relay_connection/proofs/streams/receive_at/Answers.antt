use Rattle.std.proofs.Common.{◌≡◌, ◌++◌, Some, refl, length}
use Rattle.std.specs.Prelude.{slice_get}
use Rattle.std.proofs.lemmas.Option.{slice_get_read}
use Rattle.relay_connection.specs.declared.stream.RelayStream.{RelayStream}
use Rattle.relay_connection.specs.Streams.{put, stream_reported}
use Rattle.relay_connection.proofs.Places.{as_some, put_at}
use Rattle.relay_connection.proofs.streams.receive_at.Goals as goal

pub returns-clause-streams : goal.returns-clause-streams
returns-clause-streams c =
    let xs = c.args.streams.now.items in
    let x = c.index_mut.result.now in
    let there : slice_get xs c.args.place ≡ Some x = slice_get_read xs (length xs) c.args.place x refl c.requires c.index_mut.ensures.value in
    as_some (λ (s : RelayStream). c.settle.new.streams.items ≡ put xs c.args.place (stream_reported s c.args.news.now).stream) xs c.args.place x there
    (put_at xs c.settle.new.streams.items c.args.place x c.receive.new.self (stream_reported x c.args.news.now).stream there c.in_ok-receive.ensures.stream c.settle.ensures)

pub returns-clause-asks : goal.returns-clause-asks
returns-clause-asks c =
    let xs = c.args.streams.now.items in
    let x = c.index_mut.result.now in
    let there : slice_get xs c.args.place ≡ Some x = slice_get_read xs (length xs) c.args.place x refl c.requires c.index_mut.ensures.value in
    as_some (λ (s : RelayStream). c.receive.new.asks.items ≡ c.args.asks.now.items ++ (stream_reported s c.args.news.now).asks) xs c.args.place x there c.in_ok-receive.ensures.asks
