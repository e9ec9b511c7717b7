use Rattle.ovpn_config.proofs.writing.add_keyword.Goals as goal

pub returns-in-DataCiphers : goal.returns-in-DataCiphers
returns-in-DataCiphers c = rw (c.in-DataCiphers.is, ← c.cipher_names.ensures) c.add_word-in-DataCiphers.ensures

pub returns-in-TranWindow : goal.returns-in-TranWindow
returns-in-TranWindow c = rw c.in-TranWindow.is c.add_number-in-TranWindow.ensures

pub returns-in-HandWindow : goal.returns-in-HandWindow
returns-in-HandWindow c = rw c.in-HandWindow.is c.add_number-in-HandWindow.ensures

pub returns-in-TlsTimeout : goal.returns-in-TlsTimeout
returns-in-TlsTimeout c = rw c.in-TlsTimeout.is c.add_number-in-TlsTimeout.ensures

pub returns-in-ReplayWindow : goal.returns-in-ReplayWindow
returns-in-ReplayWindow c = rw c.in-ReplayWindow.is c.add_numbers.ensures
