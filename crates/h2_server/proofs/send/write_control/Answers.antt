use Rattle.h2_server.proofs.send.write_control.Goals as goal

pub returns-in-LinkUpdate : goal.returns-in-LinkUpdate
returns-in-LinkUpdate c = rw c.in-LinkUpdate.is (rw c.get.ensures.value at c.write_window_update.ensures.ok)

pub returns-in-StreamUpdate : goal.returns-in-StreamUpdate
returns-in-StreamUpdate c = rw c.in-StreamUpdate.is (rw c.get-in-StreamUpdate-2.ensures.value at (rw c.get-in-StreamUpdate.ensures.value at c.write_window_update-in-StreamUpdate.ensures.ok))

pub returns-in-Reset : goal.returns-in-Reset
returns-in-Reset c = rw c.in-Reset.is (rw c.get-in-Reset.ensures.value at c.write_rst_stream.ensures.ok)
