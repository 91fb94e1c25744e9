-- Each result of a chain is the definition's.
use mathlib.Core.Path.{◌≡◌}
use mathlib.Core.List.{[]}
use Rattle.definition.specs.Prog.{World}
use Rattle.definition.specs.Run.{End}
use Rattle.definition.specs.History.{Given, end_of}
use Rattle.chains.specs.Chain.{Ran, wifi_init, wifi_scan, wifi_connect, wifi_disconnect, wifi_abort_connect, wifi_poll, send_data, get_rx_buf, gpio_set, get_mac_addr, get_ioctl, set_ioctl, write_iovar, up}

-- by each contract
pub ran-is : {g : Given} {w : World} {e : End} → Ran g w e → e ≡ end_of g w
ran-is (wifi_init κs country x y p) = p
ran-is (wifi_scan κs x y p) = p
ran-is (wifi_connect κs auth ssid passphrase x y p) = p
ran-is (wifi_disconnect κs x y p) = p
ran-is (wifi_abort_connect κs x y p) = p
ran-is (wifi_poll κs x y p) = p
ran-is (send_data κs interface frame x y p) = p
ran-is (get_rx_buf κs st list buf out out' r p) = p [] []
ran-is (gpio_set κs pin level x y p) = p
ran-is (get_mac_addr κs x y p) = p
ran-is (get_ioctl κs cmd interface x y p) = p
ran-is (set_ioctl κs cmd value interface x y p) = p
ran-is (write_iovar κs interface name bytes x y p) = p
ran-is (up κs x y p) = p
